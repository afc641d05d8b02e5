-- How large the terms of a grammar are tells whether there are any.
use Rattle.std.proofs.Common.{ℕ, ◌<◌, ◌≡◌, ◌↔◌, refl, subst, ap, inl, inr, arith, Bool, IsTrue, List, []}
use Rattle.std.specs.Prelude.{Result, Ok, Err, IfOk}
use Rattle.cls_base.specs.Languages.{IsGenerated, NodeRule}
use Rattle.cls_base.specs.Limits.{max_finite_size}
use Rattle.cls_base.specs.Terms.{Applicative}
use Rattle.cls_core.specs.Rows.{Row}
use Rattle.cls_enum.proofs.CellLaws.{costs_something}
use Rattle.cls_finite.specs.declared.answer.FiniteAnswer.{FiniteAnswer}
use Rattle.cls_finite.specs.declared.answer.FiniteAnswer.TheVariants.{Finite, Over, Infinite}
use Rattle.cls_finite.specs.Answers.{IfFinite, IfInfinite, IsInfinite}
use Rattle.cls_finite.specs.Finiteness.{IsGreatest, IsGreatestOver, IsGreatestSize, IsUnbounded, IsDetermined}
use Rattle.cls_grammar.specs.Grammars.{book_of}
use Rattle.cls_grammar.specs.Ranks.{IsProductiveIn}
use Rattle.cls_grammar.proofs.Trees.{productive_exactly}
use Rattle.cls_engine.specs.Goals.{Goal}
use Rattle.cls_engine.specs.Outcomes.{AreSizes, IsVerdict}

module _ (cost : ℕ → ℕ) where
  -- a size that isn't 0 is that of a term
  reached : (P : Applicative → Type 0) (n : ℕ) → IsGreatestSize cost P n → (n ≡ 0 → ⊥) → (e : Applicative) × P e
  reached P n g some = elim g.reached [ inl h ↦ (h.0, h.1) | inr h ↦ absurd (some h.0) ]

  module _ (costly : (x : ℕ) → 0 < cost x) (rows : List (Row Goal)) where
    abbrev Makes : Applicative → Type 0
    Makes e = IsGenerated (book_of rows) 0 e

    generated : IsProductiveIn (book_of rows) 0 ↔ ((e : Applicative) × Makes e)
    generated = productive_exactly ℕ (NodeRule (book_of rows)) 0

    some_term : (answer : FiniteAnswer) → AreSizes cost rows answer → (answer ≡ Finite 0 → ⊥) → (e : Applicative) × Makes e
    some_term (Finite n) s some = reached Makes n s.greatest (λ e. some (ap (λ m. Finite m) e))
    some_term Over s some = let u = s.over.0 refl in reached Makes u.0 u.1 (λ e. omega (arith, u.2, e))
    some_term (Infinite walk) s some = let u = s.infinite.0 tt 0 in (u.0, u.1)

    no_term : AreSizes cost rows (Finite 0) → (e : Applicative) → Makes e → ⊥
    no_term s e g =
        let greatest : IsGreatestSize cost Makes 0 = s.greatest in
        omega (arith, greatest.bounds e g, costs_something cost (λ x. omega (arith, costly x)) e)

    pub sizes-verdict : (answer : FiniteAnswer) → AreSizes cost rows answer → (says : Bool) → IsTrue says ↔ (answer ≡ Finite 0 → ⊥) → IsVerdict rows says
    sizes-verdict answer s says v = (
      (λ h. generated.1 (some_term answer s (v.0 h))),
      (λ p. let t = generated.0 p in v.1 (λ e. no_term (subst (AreSizes cost rows) e s) t.0 t.1)),
    )

  -- what is told of an answer, as one
  pub sizes-of : {E : Type 0} (rows : List (Row Goal)) (r : Result FiniteAnswer E)
      → IfOk r (λ answer. IfFinite answer (IsGreatest (book_of rows) cost))
      → IfOk r (λ answer. (answer ≡ Over) ↔ IsGreatestOver (book_of rows) cost max_finite_size)
      → IfOk r (λ answer. IsInfinite answer ↔ IsUnbounded (book_of rows) cost 0)
      → IfOk r (λ answer. IfInfinite answer (IsDetermined (book_of rows) cost [] 0))
      → IfOk r (AreSizes cost rows)
  sizes-of rows (Ok answer) greatest over infinite walk = record { greatest = greatest; over = over; infinite = infinite; walk = walk }
  sizes-of rows (Err e) greatest over infinite walk = tt
