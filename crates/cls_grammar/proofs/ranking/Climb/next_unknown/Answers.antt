use Rattle.std.proofs.Common.{ℕ, [], ◌∷◌, sym, ap, subst, ◌∙◌}
use Rattle.std.specs.Prelude.{IfSome, IfNone}
use Rattle.cls_grammar.specs.Climbs.{State, IsKnown, AllKnown}
use Rattle.cls_grammar.proofs.ranking.Climb.next_unknown.Goals as goal
use Rattle.cls_base.specs.Arguments.{arguments_of_rule}
use Rattle.cls_base.specs.Columns.{rule_of}

pub returns-in-Head-clause-unknown : goal.returns-in-Head-clause-unknown
returns-in-Head-clause-unknown c =
    let ranks = c.as_slice-ranks.ensures.value ∙ ap (λ (s : State). s.ranks) c.self.view_is in
    subst (λ r. IfSome c.first_unknown.result (λ (m : ℕ × ℕ). IsKnown r c.args.height m.1 → ⊥)) ranks c.first_unknown.ensures.unknown

pub returns-in-Any-clause-none : goal.returns-in-Any-clause-none
returns-in-Any-clause-none c =
    let ranks = c.as_slice-ranks.ensures.value ∙ ap (λ (s : State). s.ranks) c.self.view_is in
    subst (λ q. IfNone c.first_unknown-in-Any.result (AllKnown c.args.self.now.ranks c.args.height (arguments_of_rule (rule_of q)))) (sym c.in-Any.is) (subst (λ r. IfNone c.first_unknown-in-Any.result (AllKnown r c.args.height (c.in-Any.left ∷ c.in-Any.right ∷ []))) ranks c.first_unknown-in-Any.ensures.none)

pub returns-in-Any-clause-unknown : goal.returns-in-Any-clause-unknown
returns-in-Any-clause-unknown c =
    let ranks = c.as_slice-ranks.ensures.value ∙ ap (λ (s : State). s.ranks) c.self.view_is in
    subst (λ r. IfSome c.first_unknown-in-Any.result (λ (m : ℕ × ℕ). IsKnown r c.args.height m.1 → ⊥)) ranks c.first_unknown-in-Any.ensures.unknown
