-- The rows of a closure make a grammar, and canonical rows are the closure.
use Rattle.std.proofs.Common.{ℕ, zero, suc, ◌≡◌, ◌<◌, refl, sym, ◌∙◌, subst, ap, List, [], ◌∷◌, Some, length, slice_get, arith, Bool, true}
use Rattle.std.specs.Prelude.{option_map, Contains}
use Rattle.std.specs.List.{position_or_len}
use Rattle.std.proofs.lemmas.List.{length-map}
use Rattle.std.proofs.lemmas.Option.{slice_get-map, slice_get_within}
use Rattle.cls_base.specs.Lists.{AreDistinct}
use Rattle.cls_base.proofs.Lists.{Contains-nil, Contains-here, Contains-at}
use Rattle.cls_core.specs.declared.answer.Answer.{Answer}
use Rattle.cls_core.specs.Arguments.{HasUniqueAnswers, arguments_of}
use Rattle.cls_core.specs.Machine.{numbered}
use Rattle.cls_core.specs.Rows.{Row}
use Rattle.cls_core.specs.Closure.{IsReached, at_start, at_argument, IsClosure, goals_of}
use Rattle.cls_core.specs.Canonical.{FirstOnes, no_more, fresh, again, IsCanonical}
use Rattle.cls_core.specs.Grammar.{IsRowAnswer, IsGrammar}
use Rattle.cls_core.proofs.Canonical.{not-seen, closed-front}
use Rattle.cls_core.proofs.OneToOne.{argument-there, argument-back}
use Rattle.cls_core.proofs.Renumbering.{place-is, place-of, the_answer, answer-is, answer-at}

module _ {A : Type 0} where
  first-ones-distinct : {seen xs ys : List A} → FirstOnes seen xs ys → AreDistinct ys
  first-ones-distinct no_more = tt
  first-ones-distinct (fresh {seen = seen} {x = x} n h) = (λ m. not-seen x h m (Contains-here x seen), first-ones-distinct h)
  first-ones-distinct (again s h) = first-ones-distinct h

  first-ones-begin : {x : A} {xs ys : List A} → FirstOnes [] (x ∷ xs) ys → slice_get ys 0 ≡ Some x
  first-ones-begin (fresh n h) = refl
  first-ones-begin (again {x = x} s h) = absurd (Contains-nil x s)

module _ {G : Type 0} (eq : G → G → Bool) (IsAnswer : G → Answer G → Type 0) (start : G) (unique : HasUniqueAnswers IsAnswer) where
  -- Canonical rows are the closure.
  pub canonical-closure : (rows : List (Row G)) → IsCanonical eq IsAnswer start rows → IsClosure eq IsAnswer start rows
  canonical-closure rows c = record {
    first = first-ones-begin c.numbering.breadth_first;
    distinct = first-ones-distinct c.numbering.breadth_first;
    reached = c.numbering.reached;
    whole = closed-front IsAnswer start unique (goals_of rows) (goals_of rows) c.numbering.answers c.numbering.answered (λ g m. m) c.numbering.breadth_first;
    answered = c.answered;
  }

  module _ (exact : (x y : G) → eq x y ≡ true → x ≡ y) (reflexive : (x : G) → eq x x ≡ true) (rows : List (Row G)) (c : IsClosure eq IsAnswer start rows) where
    abbrev place : G → ℕ
    place g = position_or_len (eq g) (goals_of rows)

    count : length (goals_of rows) ≡ length rows
    count = length-map rows (λ (r : Row G). r.goal)

    goal-at : (k : ℕ) (r : Row G) → slice_get rows k ≡ Some r → slice_get (goals_of rows) k ≡ Some r.goal
    goal-at k r e = slice_get-map (λ (r : Row G). r.goal) rows k ∙ ap (option_map (λ (r : Row G). r.goal)) e

    row-there : (xs : List (Row G)) (k : ℕ) → k < length xs → (r : Row G) × (slice_get xs k ≡ Some r)
    row-there [] k h = absurd (omega arith)
    row-there (x ∷ xs) zero h = (x, refl)
    row-there (x ∷ xs) (suc k) h = row-there xs k (omega arith)

    within : (k : ℕ) (r : Row G) → slice_get rows k ≡ Some r → (n : ℕ) → Contains (arguments_of r.answer) n → n < length rows
    within k r e n m =
        let w = c.answered k r e in
        let a = argument-back place w.0 n (subst (λ x. Contains (arguments_of x) n) w.2 m) in
        let reached = c.reached r.goal (Contains-at (goals_of rows) k r.goal (goal-at k r e)) in
        let known = c.whole a.0 (at_argument r.goal a.0 w.0 reached w.1 a.1) in
        let less = slice_get_within (goals_of rows) (place a.0) a.0 (place-is eq exact reflexive (goals_of rows) a.0 known) in
        omega (arith, less, a.2, count)

    reaches : (g : G) → IsReached IsAnswer start g → IsReached (IsRowAnswer rows) 0 (place g)
    reaches g at_start =
        subst (IsReached (IsRowAnswer rows) 0) (sym (place-of eq exact reflexive IsAnswer start rows c 0 start c.first)) at_start
    reaches h (at_argument g m a r is k) =
        let known = c.whole g r in
        let b = the_answer eq exact reflexive IsAnswer start rows c g in
        let same : a ≡ b = unique g a b is (answer-is eq exact reflexive IsAnswer start rows c g known) in
        let row : Row G = record { goal = g; answer = numbered eq (goals_of rows) b } in
        let at : IsRowAnswer rows (place g) row.answer = (row, answer-at eq exact reflexive IsAnswer start rows c g known, refl) in
        at_argument (place g) (place m) row.answer (reaches g r) at (argument-there place b m (subst (λ x. Contains (arguments_of x) m) same k))

    connected : (k : ℕ) → k < length rows → IsReached (IsRowAnswer rows) 0 k
    connected k h =
        let r = row-there rows k h in
        let at = goal-at k r.0 r.1 in
        subst (IsReached (IsRowAnswer rows) 0) (place-of eq exact reflexive IsAnswer start rows c k r.0.goal at) (reaches r.0.goal (c.reached r.0.goal (Contains-at (goals_of rows) k r.0.goal at)))

    -- The rows of the closure make a tree grammar.
    pub closure-grammar : IsGrammar start rows
    closure-grammar = record { first = c.first; distinct = c.distinct; within = within; connected = connected }
