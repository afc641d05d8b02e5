use Rattle.std.proofs.lemmas.Result.{err_from_is_err_and}
use Rattle.cls_base.specs.Schemas.{schema_of}
use Rattle.cls_kind.specs.Kinds.{instances_of}
use Rattle.cls_library.proofs.Gathering.{partly-none, partly-step, small-step, step-refused}
use Rattle.cls_library.proofs.gather.gather.Goals as goal

pub loop-made-init : goal.loop-made-init
loop-made-init c =
    rw (c.new-paths.ensures.items, c.into_iter-made-iterator.ensures.into_iter_gives, c.in_ok-made-items.ensures.instances)
    (partly-none c.args.taxonomy.now c.args.held (instances_of c.args.kinds.now (schema_of c.args.schema.now)) c.requires)

pub put_instance-requires-clause-small : goal.put_instance-requires-clause-small
put_instance-requires-clause-small c =
    small-step c.loop-made.made-iterator c.in-Some.made c.next.new.self c.in_ok-ty.ty c.in-Some.ensures.steps c.in_ok-ty.was

pub loop-made-preserved-in_ok-weight : goal.loop-made-preserved-in_ok-weight
loop-made-preserved-in_ok-weight c =
    partly-step c.args.taxonomy.now c.args.held (instances_of c.args.kinds.now (schema_of c.args.schema.now)) c.loop-made.paths.items c.loop-made.weight c.loop-made.made-iterator c.in-Some.made c.next.new.self c.in_ok-ty.ty c.put_instance.new.paths.items c.in_ok-weight.weight
    c.loop-made.invariant c.in-Some.ensures.steps c.in_ok-ty.was c.in_ok-weight.ensures.accepted c.in_ok-weight.ensures.paths c.in_ok-weight.ensures.weight

pub loop-made-preserved-in_ok-weight-2 : goal.loop-made-preserved-in_ok-weight-2
loop-made-preserved-in_ok-weight-2 c =
    partly-step c.args.taxonomy.now c.args.held (instances_of c.args.kinds.now (schema_of c.args.schema.now)) c.loop-made.paths.items c.loop-made.weight c.loop-made.made-iterator c.in-Some.made c.next.new.self c.in_ok-ty.ty c.put_instance.new.paths.items c.in_ok-weight.weight
    c.loop-made.invariant c.in-Some.ensures.steps c.in_ok-ty.was c.in_ok-weight.ensures.accepted c.in_ok-weight.ensures.paths c.in_ok-weight.ensures.weight

pub loop-made-preserved-in_ok-weight-3 : goal.loop-made-preserved-in_ok-weight-3
loop-made-preserved-in_ok-weight-3 c =
    partly-step c.args.taxonomy.now c.args.held (instances_of c.args.kinds.now (schema_of c.args.schema.now)) c.loop-made.paths.items c.loop-made.weight c.loop-made.made-iterator c.in-Some.made c.next.new.self c.in_ok-ty.ty c.put_instance.new.paths.items c.in_ok-weight.weight
    c.loop-made.invariant c.in-Some.ensures.steps c.in_ok-ty.was c.in_ok-weight.ensures.accepted c.in_ok-weight.ensures.paths c.in_ok-weight.ensures.weight

pub loop-made-preserved-in_ok-weight-4 : goal.loop-made-preserved-in_ok-weight-4
loop-made-preserved-in_ok-weight-4 c =
    partly-step c.args.taxonomy.now c.args.held (instances_of c.args.kinds.now (schema_of c.args.schema.now)) c.loop-made.paths.items c.loop-made.weight c.loop-made.made-iterator c.in-Some.made c.next.new.self c.in_ok-ty.ty c.put_instance.new.paths.items c.in_ok-weight.weight
    c.loop-made.invariant c.in-Some.ensures.steps c.in_ok-ty.was c.in_ok-weight.ensures.accepted c.in_ok-weight.ensures.paths c.in_ok-weight.ensures.weight

pub loop-made-preserved : goal.loop-made-preserved
loop-made-preserved c =
    partly-step c.args.taxonomy.now c.args.held (instances_of c.args.kinds.now (schema_of c.args.schema.now)) c.loop-made.paths.items c.loop-made.weight c.loop-made.made-iterator c.in-Some.made c.next.new.self c.in_ok-ty.ty c.put_instance.new.paths.items c.in_ok-weight.weight
    c.loop-made.invariant c.in-Some.ensures.steps c.in_ok-ty.was c.in_ok-weight.ensures.accepted c.in_ok-weight.ensures.paths c.in_ok-weight.ensures.weight

pub returns-in_err-weight-clause-refused : goal.returns-in_err-weight-clause-refused
returns-in_err-weight-clause-refused c =
    let p = err_from_is_err_and c.from_residual-in_err-weight.result c.from_residual-in_err-weight.ensures.1 in
    rw (p.1, p.2) (step-refused c.args.taxonomy.now c.args.kinds.now (schema_of c.args.schema.now) c.args.held c.loop-made.paths.items c.loop-made.weight c.loop-made.made-iterator c.in-Some.made c.next.new.self c.in_ok-ty.ty _
    c.in_ok-made-items.ensures.accepted c.loop-made.invariant c.in-Some.ensures.steps c.in_ok-ty.was c.in_err-weight.ensures.refused)
