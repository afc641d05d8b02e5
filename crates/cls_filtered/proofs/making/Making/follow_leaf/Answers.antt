use Rattle.std.proofs.Common.{◌∷◌, [], ℕ, List, Bool, Option, cond, sym, ap, subst, ◌∙◌}
use Rattle.std.proofs.lemmas.Result.{on_ok_weaker}
use Rattle.cls_base.specs.declared.rule.Rule.{Rule}
use Rattle.cls_base.specs.declared.rule.Rule.TheVariants.{Head}
use Rattle.cls_filter.specs.Automata.{leaf_state}
use Rattle.cls_filtered.specs.Filtered.{is_state}
use Rattle.cls_filtered.specs.Makings.{IsMade, IsTooMuch}
use Rattle.cls_filtered.proofs.FaultLaws.{large-weaker}
use Rattle.cls_filtered.proofs.Makings.{made-none}
use Rattle.cls_filtered.proofs.making.Making.follow_leaf.Goals as goal

pub returns-then-not-is_state-clause-ok : goal.returns-then-not-is_state-clause-ok
returns-then-not-is_state-clause-ok c =
    let test = c.is_state.ensures ∙ ap (λ (o : Option ℕ). is_state o c.args.state) c.leaf_state.ensures.state in
    subst (λ (rs : List (Rule ℕ)). IsMade rs c.args.self.now c.args.self.now) (ap (λ (b : Bool). cond b (Head c.args.component [] ∷ []) []) (sym (sym test ∙ c.if-not-is_state.true))) (made-none c.args.self.now)

pub returns-clause-ok : goal.returns-clause-ok
returns-clause-ok c =
    let test = c.is_state.ensures ∙ ap (λ (o : Option ℕ). is_state o c.args.state) c.leaf_state.ensures.state in
    let rs = ap (λ (b : Bool). cond b (Head c.args.component [] ∷ []) []) (sym (sym test ∙ c.if-not-is_state.false)) in
    on_ok_weaker c.push.result (λ h. subst (λ (qs : List (Rule ℕ)). IsMade qs c.args.self.now c.push.new.self) rs h) c.push.ensures.ok

pub returns-clause-large : goal.returns-clause-large
returns-clause-large c =
    let test = c.is_state.ensures ∙ ap (λ (o : Option ℕ). is_state o c.args.state) c.leaf_state.ensures.state in
    let rs = ap (λ (b : Bool). cond b (Head c.args.component [] ∷ []) []) (sym (sym test ∙ c.if-not-is_state.false)) in
    large-weaker c.push.result (IsTooMuch (Head c.args.component [] ∷ []) c.args.self.now) (IsTooMuch (cond (is_state (leaf_state c.args.filter.now c.args.component) c.args.state) (Head c.args.component [] ∷ []) []) c.args.self.now)
    (λ h. subst (λ (qs : List (Rule ℕ)). IsTooMuch qs c.args.self.now) rs h) c.push.ensures.large
