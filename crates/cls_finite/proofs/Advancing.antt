-- A round of the descent, as the code does it.
use Rattle.std.proofs.Common.{◌≡◌, ℕ, ◌<◌, Bool, List, [], ◌∷◌, ◌++◌, Some, length, set, slice_get, sym, ap, subst, ◌∙◌, arith}
use Rattle.std.specs.Prelude.{IsTrue}
use Rattle.cls_base.specs.declared.rule.Rule.{Rule}
use Rattle.cls_base.specs.Languages.{IsGenerated, rules_at}
use Rattle.cls_base.specs.Arguments.{arguments_of_rule}
use Rattle.cls_base.specs.Books.{HaveNodesBelow}
use Rattle.cls_grammar.specs.Ranks.{AreProductive}
use Rattle.cls_grammar.specs.Trimming.{is_useful}
use Rattle.cls_finite.specs.declared.descent.Mark.TheVariants.{Open, Done}
use Rattle.cls_finite.specs.declared.walk.Step.{Step}
use Rattle.cls_finite.specs.Descents.{State, opened, AreDone, greatest_by, IsCapped, IsPassed, IsNext, IsKept}
use Rattle.cls_finite.specs.Finiteness.{HasPositiveCosts, IsUnbounded, IsGreatestOver}
use Rattle.cls_finite.specs.Outcomes.{HasGone, HasComeRound}
use Rattle.cls_finite.proofs.Descending as descending

module _ (cap : ℕ) (cost : ℕ → ℕ) (book : List (List (Rule ℕ))) (flags : List Bool) (p : AreProductive book flags)
    (s : State) (k : IsKept cap cost book flags s) where
  pub node-within : (node : ℕ) → node ≡ s.top.goal → node < length book
  node-within node n = omega (arith, n, descending.top-within cap cost book flags p s k, k.sized)

  pub top-less : s.top.goal < length s.marks
  top-less = descending.top-within cap cost book flags p s k

  module _ (node : ℕ) (n : node ≡ s.top.goal) (rs : List (Rule ℕ)) (at : rs ≡ rules_at book node) where
    same : rs ≡ rules_at book s.top.goal
    same = at ∙ ap (rules_at book) n

    pub all-passed : IsPassed s.marks flags rs s.top.rule s.top.argument
    all-passed = subst (λ l. IsPassed s.marks flags l s.top.rule s.top.argument) (sym same) k.at

    module _ (step : Step) (next : ℕ) (goal : step.goal ≡ s.top.goal) (is : IsNext s.marks flags rs step next) where
      is-next : IsNext s.marks flags (rules_at book s.top.goal) step next
      is-next = subst (λ l. IsNext s.marks flags l step next) same is

      below : HaveNodesBelow (length book) (rules_at book node) → HaveNodesBelow (length book) (rules_at book s.top.goal)
      below w = subst (λ i. HaveNodesBelow (length book) (rules_at book i)) n w

      pub next-less : HaveNodesBelow (length book) (rules_at book node) → next < length s.marks
      next-less w = descending.next-within cap cost book flags p s k step next goal is-next (below w)

      pub goes : HaveNodesBelow (length book) (rules_at book node) → (slice_get s.marks next ≡ Some Open → ⊥) → (new : State) → new ≡ opened s step next → HasGone cap cost book flags s new
      goes w closed new e = subst (HasGone cap cost book flags s) (sym e) (descending.kept-open cap cost book flags p s k step next goal is-next (below w) closed)

      pub comes_round : HasPositiveCosts book cost → slice_get s.marks next ≡ Some Open → (new : State) → new ≡ record s { path = s.path ++ step ∷ [] } → HasComeRound cap cost book flags new
      comes_round costs opens new e = descending.kept-round cap cost book flags p s k step next goal is-next costs opens new (ap (λ (t : State). t.path) e)

    module _ (all : (j : ℕ) (r : Rule ℕ) → slice_get rs j ≡ Some r → IsTrue (is_useful flags r) → AreDone s.marks (arguments_of_rule r)) (size : ℕ) (is : size ≡ greatest_by cap cost s.marks flags rs) where
      all-done : (j : ℕ) (r : Rule ℕ) → slice_get (rules_at book s.top.goal) j ≡ Some r → IsTrue (is_useful flags r) → AreDone s.marks (arguments_of_rule r)
      all-done j r e = all j r (subst (λ l. slice_get l j ≡ Some r) (sym same) e)

      size-is : size ≡ greatest_by cap cost s.marks flags (rules_at book s.top.goal)
      size-is = is ∙ ap (greatest_by cap cost s.marks flags) same

      pub ends : s.path ≡ [] → IsCapped cap cost (IsGenerated book 0) size
      ends e = descending.kept-ends cap cost book flags p s k all-done size size-is e

      pub closes : (new : State) → new.marks ≡ set s.marks s.top.goal (Done size) → s.path ≡ new.path ++ new.top ∷ [] → HasGone cap cost book flags s new
      closes new marks path = descending.kept-closed cap cost book flags p s k all-done size size-is new marks path

-- what has no bound has no greatest size
pub unbounded-not_over : (book : List (List (Rule ℕ))) (cost : ℕ → ℕ) (limit : ℕ) → IsUnbounded book cost 0 → IsGreatestOver book cost limit → ⊥
unbounded-not_over book cost limit u g = let m = u g.0 in let l = g.1.bounds m.0 m.1 in let n = m.2 in omega arith
