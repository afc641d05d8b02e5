-- What is told of how large the terms of a type are is one thing.
use Rattle.std.proofs.Common.{ℕ, ◌≡◌, ◌<◌, ◌≤◌, refl, sym, ◌∙◌, ap, subst, inl, inr, List, [], ◌∷◌, arith}
use Rattle.std.specs.Prelude.{Some, slice_get, Contains}
use Rattle.std.proofs.lemmas.Bool.{cases_order}
use Rattle.cls_base.specs.Firsts.{IsDetermined}
use Rattle.cls_base.specs.Terms.{size_of}
use Rattle.cls_base.specs.Types.{ClosedType}
use Rattle.cls_base.specs.declared.rule.Rule.{Rule}
use Rattle.cls_base.specs.Arguments.{arguments_of_rule}
use Rattle.cls_base.specs.Limits.{max_finite_size}
use Rattle.cls_core.specs.Rows.{Row}
use Rattle.cls_grammar.specs.Grammars.{book_of}
use Rattle.cls_library.specs.Libraries.{Library}
use Rattle.cls_library.specs.Typing.{HasTypeIn}
use Rattle.cls_finite.specs.declared.answer.FiniteAnswer.TheVariants.{Finite, Over, Infinite}
use Rattle.cls_finite.specs.declared.walk.Step.{Step}
use Rattle.cls_finite.specs.Finiteness as finiteness
use Rattle.cls_finite.specs.Finiteness.{IsFirstStep, IsGreatestSize}
use Rattle.cls_finite.proofs.Greatest.{greatest-one}
use Rattle.cls_finite.specs.Walks.{LeadsTo}
use Rattle.cls_engine.specs.Goals.{Goal}
use Rattle.cls_engine.specs.Sizes.{IsGreatest, IsUnbounded, IsWalk}
use Rattle.cls_engine.proofs.Goals.{closed_unique}
use Rattle.cls_replies.specs.Replies.{TellsSizes}

same_step : (s s' : Step) → s.goal ≡ s'.goal → s.rule ≡ s'.rule → s.argument ≡ s'.argument → s ≡ s'
same_step s s' e f g = λ i. record { goal = e i; rule = f i; argument = g i }

-- THE WALK
module _ (book : List (List (Rule ℕ))) (cost : ℕ → ℕ) where
  first_step : (s s' : Step) (m n : ℕ) → s.goal ≡ s'.goal → IsFirstStep book cost s m → IsFirstStep book cost s' n → s ≡ s'
  first_step s s' m n e h k = elim (cases_order s.rule s'.rule) [
    | inr (inl less) ↦ absurd (k.first_rule s m e less h.goes_on)
    | inr (inr more) ↦ absurd (h.first_rule s' n (sym e) more k.goes_on)
    | inl same ↦ elim (cases_order s.argument s'.argument) [
      | inl one ↦ same_step s s' e same one
      | inr (inl less) ↦ absurd (k.first_argument s m e same less h.goes_on)
      | inr (inr more) ↦ absurd (h.first_argument s' n (sym e) (sym same) more k.goes_on)
    ]
  ]

  one_next : (s : Step) (m n : ℕ) → LeadsTo book s m → LeadsTo book s n → m ≡ n
  one_next s m n t u =
      let a = t.there in
      let b = u.there in
      let same : t.rule ≡ u.rule = cc in
      let c : slice_get (arguments_of_rule u.rule) s.argument ≡ Some m = subst (λ (r : Rule ℕ). slice_get (arguments_of_rule r) s.argument ≡ Some m) same t.argument in
      let d = u.argument in
      cc

  next_goal : (s s' : Step) (m n : ℕ) → s ≡ s' → IsFirstStep book cost s m → IsFirstStep book cost s' n → m ≡ n
  next_goal s s' m n e h k = one_next s m n h.goes_on.leads (subst (λ (x : Step). IsFirstStep book cost x n) (sym e) k).goes_on.leads

  one_walk : {seen : List ℕ} {i : ℕ} {w v : List Step} → finiteness.IsDetermined book cost seen i w → finiteness.IsDetermined book cost seen i v → w ≡ v
  one_walk (finiteness.IsDetermined.comes_round {next = m} {s = s} a h r) (finiteness.IsDetermined.comes_round {next = n} {s = s'} b k q) =
      ap (λ (x : Step). x ∷ []) (first_step s s' m n (a ∙ sym b) h k)
  one_walk {seen = seen} {i = i} (finiteness.IsDetermined.comes_round {next = m} {s = s} a h r) (finiteness.IsDetermined.walks_on {next = n} {s = s'} b k q d) =
      absurd (q (subst (λ (x : ℕ). Contains (i ∷ seen) x) (next_goal s s' m n (first_step s s' m n (a ∙ sym b) h k) h k) r))
  one_walk {seen = seen} {i = i} (finiteness.IsDetermined.walks_on {next = m} {s = s} a h r d) (finiteness.IsDetermined.comes_round {next = n} {s = s'} b k q) =
      absurd (r (subst (λ (x : ℕ). Contains (i ∷ seen) x) (sym (next_goal s s' m n (first_step s s' m n (a ∙ sym b) h k) h k)) q))
  one_walk {seen = seen} {i = i} (finiteness.IsDetermined.walks_on {next = m} {s = s} {ss = ss} a h r d) (finiteness.IsDetermined.walks_on {next = n} {s = s'} {ss = ss'} b k q d') =
      let step = first_step s s' m n (a ∙ sym b) h k in
      let rest = one_walk d (subst (λ (x : ℕ). finiteness.IsDetermined book cost (i ∷ seen) x ss') (sym (next_goal s s' m n step h k)) d') in
      λ j. step j ∷ rest j

-- THE GREATEST SIZE
too_large : (a b : ℕ) → a ≤ b → b < a → ⊥
too_large a b l m = omega arith

module _ (lib : Library) (cost : ℕ → ℕ) (t : ClosedType) where
  not_over : (n m : ℕ) → IsGreatest lib cost t n → n ≤ max_finite_size → IsGreatest lib cost t m → max_finite_size < m → ⊥
  not_over n m g l k o = let e = greatest-one cost (λ e. HasTypeIn lib e t) n m g k in omega (arith, e, l, o)

  not_unbounded : (n : ℕ) → IsGreatest lib cost t n → IsUnbounded lib cost t → ⊥
  not_unbounded n g u = let x = u n in too_large (size_of cost x.0) n (g.bounds x.0 x.1) x.2

  walk_one : (w v : List Step) → IsWalk lib cost t w → IsWalk lib cost t v → w ≡ v
  walk_one w v p q =
      let rows : p.0 ≡ q.0 = closed_unique lib t p.0 q.0 p.1 q.1 in
      one_walk (book_of q.0) cost (subst (λ (rs : List (Row Goal)). finiteness.IsDetermined (book_of rs) cost [] 0 w) rows p.2) q.2

  pub sizes_one : IsDetermined (TellsSizes lib cost t)
  sizes_one (Finite n) (Finite m) h k = ap (λ (x : ℕ). Finite x) (greatest-one cost (λ e. HasTypeIn lib e t) n m h.0 k.0)
  sizes_one (Finite n) Over h k = absurd (not_over n k.0 h.0 h.1 k.1 k.2)
  sizes_one (Finite n) (Infinite w) h k = absurd (not_unbounded n h.0 k.0)
  sizes_one Over (Finite m) h k = absurd (not_over m h.0 k.0 k.1 h.1 h.2)
  sizes_one Over Over h k = refl
  sizes_one Over (Infinite w) h k = absurd (not_unbounded h.0 h.1 k.0)
  sizes_one (Infinite w) (Finite m) h k = absurd (not_unbounded m k.0 h.0)
  sizes_one (Infinite w) Over h k = absurd (not_unbounded k.0 k.1 h.0)
  sizes_one (Infinite w) (Infinite v) h k = ap (λ (x : List Step). Infinite x) (walk_one w v h.1 k.1)
