use Rattle.std.proofs.Common.{sym}
use Rattle.std.proofs.lemmas.Result.{on_ok_weaker}
use Rattle.std.proofs.lemmas.Bool.{ltb-true}
use Rattle.cls_filtered.proofs.Following.{turns-same, step-turns}
use Rattle.cls_filtered.proofs.states.States.follow_step.Goals as goal

pub returns-in-None : goal.returns-in-None
returns-in-None c = turns-same c.args.filter.now c.args.book.now c.args.self.now

pub returns-in-Some : goal.returns-in-Some
returns-in-Some c =
    on_ok_weaker c.follow.result
    (λ h. step-turns c.args.filter.now c.args.book.now c.args.node c.steps-steps.result.now c.args.place c.in-Some.step.now c.args.self.now c.follow.new.self (ltb-true _ _ (sym c.in-Some.ensures.lookup.0)) c.in-Some.ensures.lookup.1 c.steps-steps.ensures h)
    c.follow.ensures
