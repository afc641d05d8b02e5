use Rattle.std.proofs.Common.{ℕ, List, subst}
use Rattle.std.proofs.lemmas.Result.{err_from_is_err_and}
use Rattle.cls_base.specs.declared.rule.Rule.{Rule}
use Rattle.cls_filtered.specs.Makings.{IsMade}
use Rattle.cls_filtered.proofs.FaultLaws.{many-weaker}
use Rattle.cls_filtered.proofs.Makings.{made-none, pairs-all, made-pair, much-pair}
use Rattle.cls_filtered.proofs.making.Making.apply.Goals as goal

pub loop-pair-init : goal.loop-pair-init
loop-pair-init c = made-none c.args.self.now

pub loop-pair-preserved : goal.loop-pair-preserved
loop-pair-preserved c =
    made-pair c.args.kept.now c.args.parts.0 c.args.parts.1 c.args.pairs.now c.loop-pair.pair-index _ c.args.self.now c.loop-pair.self c.apply_at.new.self c.loop-pair-test.true c.loop-pair.invariant c.in_ok-apply_at.ensures.ok

pub returns-in_err-apply_at-clause-large : goal.returns-in_err-apply_at-clause-large
returns-in_err-apply_at-clause-large c =
    let p = err_from_is_err_and c.from_residual.result c.from_residual.ensures.1 in
    rw (p.1, p.2) (many-weaker _ _ _
    (much-pair c.args.kept.now c.args.parts.0 c.args.parts.1 c.args.pairs.now c.loop-pair.pair-index _ c.args.self.now c.loop-pair.self c.loop-pair-test.true c.loop-pair.invariant)
    c.in_err-apply_at.ensures.large)

pub returns-clause-ok : goal.returns-clause-ok
returns-clause-ok c =
    subst (λ (rs : List (Rule ℕ)). IsMade rs c.args.self.now c.loop-pair.self) (pairs-all c.args.kept.now c.args.parts.0 c.args.parts.1 c.args.pairs.now c.loop-pair.pair-index c.loop-pair-test.false) c.loop-pair.invariant
