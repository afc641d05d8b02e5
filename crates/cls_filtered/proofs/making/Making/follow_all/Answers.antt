use Rattle.std.proofs.Common.{ℕ, List, subst}
use Rattle.std.proofs.lemmas.Result.{err_from_is_err_and}
use Rattle.cls_base.specs.declared.rule.Rule.{Rule}
use Rattle.cls_filtered.specs.Makings.{IsMade}
use Rattle.cls_filtered.proofs.FaultLaws.{many-weaker}
use Rattle.cls_filtered.proofs.Makings.{made-none, steps-all, made-step, much-step}
use Rattle.cls_filtered.proofs.making.Making.follow_all.Goals as goal

pub loop-step-init : goal.loop-step-init
loop-step-init c = made-none c.args.self.now

pub loop-step-preserved : goal.loop-step-preserved
loop-step-preserved c =
    made-step c.args.filter.now c.args.kept.now c.args.state c.args.steps.now c.loop-step.step-index _ c.args.self.now c.loop-step.self c.follow.new.self c.loop-step-test.true c.loop-step.invariant c.in_ok-follow.ensures.ok

pub returns-in_err-follow-clause-large : goal.returns-in_err-follow-clause-large
returns-in_err-follow-clause-large c =
    let p = err_from_is_err_and c.from_residual.result c.from_residual.ensures.1 in
    rw (p.1, p.2) (many-weaker _ _ _
    (much-step c.args.filter.now c.args.kept.now c.args.state c.args.steps.now c.loop-step.step-index _ c.args.self.now c.loop-step.self c.loop-step-test.true c.loop-step.invariant)
    c.in_err-follow.ensures.large)

pub returns-clause-ok : goal.returns-clause-ok
returns-clause-ok c =
    subst (λ (rs : List (Rule ℕ)). IsMade rs c.args.self.now c.loop-step.self) (steps-all c.args.filter.now c.args.kept.now c.args.state c.args.steps.now c.loop-step.step-index c.loop-step-test.false) c.loop-step.invariant
