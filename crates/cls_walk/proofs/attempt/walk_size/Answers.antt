use Rattle.std.proofs.Common.{arith}
use Rattle.std.specs.Prelude.{option_copied}
use Rattle.cls_term.specs.Costs.{cost_of}
use Rattle.cls_walk.proofs.Attempts.{none-of-size, planned-due}
use Rattle.cls_walk.proofs.attempt.walk_size.Goals as goal

pub returns-then-get-eq0-clause-listed : goal.returns-then-get-eq0-clause-listed
returns-then-get-eq0-clause-listed c = λ book last max known within least.
    none-of-size book c.args.plan.now (option_copied c.args.after) max last c.args.size known.upper within (omega (arith, c.get.ensures, c.if-get-eq0.true)) c.args.walk.now

pub returns-clause-listed : goal.returns-clause-listed
returns-clause-listed c = λ book last max known within least.
    planned-due book c.args.plan.now (option_copied c.args.after) max last c.args.size known c.requires.some within least c.requires.short c.in-Some.cursor c.args.walk.now c.list_size.new.walk c.list_size.result
    (c.in-Some.ensures.some (cost_of c.args.plan.now.costs.now) c.requires.start)
    c.list_size.ensures.by_forms
    c.list_size.ensures.by_frames
