use Rattle.std.proofs.Common.{rules}
use Rattle.cls_base.specs.Ty.{type_of}
use Rattle.cls_engine.proofs.Faulting.{by_closing, known-silent}
use Rattle.cls_engine.proofs.engine.Engine.audit.Goals as goal

pub returns-in_err-closed-clause-fault : goal.returns-in_err-closed-clause-fault
returns-in_err-closed-clause-fault g c =
    let h = by_closing c.args.self.now.library c.args.self.now.options (type_of c.args.ty.now) c.in_ok-goal.goal c.in_ok-goal.ensures.goal c.in_ok-goal.ensures.narrow c.in_ok-goal.ensures.ready
    c.in_err-closed.field-0.0 (rw c.take_recent.ensures.same at c.in_err-closed.ensures.fault) in
    search (rules, h)

pub returns-clause-silent : goal.returns-clause-silent
returns-clause-silent g c =
    known-silent c.args.self.now.library c.args.self.now.options (type_of c.args.ty.now) c.in_ok-goal.goal c.in_ok-goal.ensures.goal c.in_ok-goal.ensures.narrow _ (rw c.take_recent.ensures.same at c.in_ok-closed.ensures.known)
