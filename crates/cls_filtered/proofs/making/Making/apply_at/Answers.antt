use Rattle.std.proofs.Common.{ℕ, List, subst}
use Rattle.std.proofs.lemmas.Result.{on_ok_weaker}
use Rattle.cls_base.specs.declared.rule.Rule.{Rule}
use Rattle.cls_filtered.specs.Makings.{IsMade, IsTooMuch, applied_to, applied}
use Rattle.cls_filtered.proofs.FaultLaws.{large-weaker}
use Rattle.cls_filtered.proofs.Makings.{made-none, applied-some, applied-none}
use Rattle.cls_filtered.proofs.making.Making.apply_at.Goals as goal

pub returns-in-Some-clause-ok : goal.returns-in-Some-clause-ok
returns-in-Some-clause-ok c =
    let rs = applied-some c.args.kept.now c.args.parts.0 c.args.parts.1 c.in-Some.node c.args.states c.in-Some.ensures in
    on_ok_weaker c.apply_to.result (λ h. subst (λ (qs : List (Rule ℕ)). IsMade qs c.args.self.now c.apply_to.new.self) rs h) c.apply_to.ensures.ok

pub returns-in-Some-clause-large : goal.returns-in-Some-clause-large
returns-in-Some-clause-large c =
    let rs = applied-some c.args.kept.now c.args.parts.0 c.args.parts.1 c.in-Some.node c.args.states c.in-Some.ensures in
    large-weaker c.apply_to.result (IsTooMuch (applied_to c.args.kept.now c.in-Some.node c.args.parts.1 c.args.states.1) c.args.self.now) (IsTooMuch (applied c.args.kept.now c.args.parts.0 c.args.parts.1 c.args.states) c.args.self.now)
    (λ h. subst (λ (qs : List (Rule ℕ)). IsTooMuch qs c.args.self.now) rs h) c.apply_to.ensures.large

pub returns-in-None-clause-ok : goal.returns-in-None-clause-ok
returns-in-None-clause-ok c =
    subst (λ (qs : List (Rule ℕ)). IsMade qs c.args.self.now c.args.self.now) (applied-none c.args.kept.now c.args.parts.0 c.args.parts.1 c.args.states c.in-None.ensures) (made-none c.args.self.now)
