use Rattle.std.proofs.Common.{◌∷◌, [], ℕ, List, subst}
use Rattle.std.proofs.lemmas.Result.{on_ok_weaker}
use Rattle.cls_base.specs.declared.rule.Rule.{Rule}
use Rattle.cls_base.specs.declared.rule.Rule.TheVariants.{Any}
use Rattle.cls_filtered.specs.Makings.{IsMade, IsTooMuch, applied_to}
use Rattle.cls_filtered.proofs.FaultLaws.{large-weaker}
use Rattle.cls_filtered.proofs.Makings.{made-none, applied_to-some, applied_to-none}
use Rattle.cls_filtered.proofs.making.Making.apply_to.Goals as goal

pub returns-in-Some-clause-ok : goal.returns-in-Some-clause-ok
returns-in-Some-clause-ok c =
    let rs = applied_to-some c.args.kept.now c.args.left c.args.right c.args.state c.in-Some.node c.in-Some.ensures in
    on_ok_weaker c.push.result (λ h. subst (λ (qs : List (Rule ℕ)). IsMade qs c.args.self.now c.push.new.self) rs h) c.push.ensures.ok

pub returns-in-Some-clause-large : goal.returns-in-Some-clause-large
returns-in-Some-clause-large c =
    let rs = applied_to-some c.args.kept.now c.args.left c.args.right c.args.state c.in-Some.node c.in-Some.ensures in
    large-weaker c.push.result (IsTooMuch (Any c.args.left c.in-Some.node ∷ []) c.args.self.now) (IsTooMuch (applied_to c.args.kept.now c.args.left c.args.right c.args.state) c.args.self.now)
    (λ h. subst (λ (qs : List (Rule ℕ)). IsTooMuch qs c.args.self.now) rs h) c.push.ensures.large

pub returns-in-None-clause-ok : goal.returns-in-None-clause-ok
returns-in-None-clause-ok c =
    subst (λ (qs : List (Rule ℕ)). IsMade qs c.args.self.now c.args.self.now) (applied_to-none c.args.kept.now c.args.left c.args.right c.args.state c.in-None.ensures) (made-none c.args.self.now)
