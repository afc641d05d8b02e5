-- How large the terms of a grammar are is how large those of its type are.
use Rattle.std.proofs.Common.{ℕ, ◌↔◌, inl, inr, List, []}
use Rattle.cls_base.specs.Languages.{IsGenerated}
use Rattle.cls_base.specs.Terms.{Applicative}
use Rattle.cls_base.specs.Types.{ClosedType}
use Rattle.cls_core.specs.Rows.{Row}
use Rattle.cls_finite.specs.declared.answer.FiniteAnswer.{FiniteAnswer}
use Rattle.cls_finite.specs.declared.answer.FiniteAnswer.TheVariants.{Finite, Over, Infinite}
use Rattle.cls_finite.specs.Answers.{IfFinite, IfInfinite}
use Rattle.cls_finite.specs.Finiteness as book
use Rattle.cls_grammar.specs.Grammars.{book_of}
use Rattle.cls_library.specs.Libraries.{Library}
use Rattle.cls_library.specs.Typing.{HasTypeIn}
use Rattle.cls_engine.specs.declared.options.Options.{Options}
use Rattle.cls_engine.specs.Closing.{IsKnownOf}
use Rattle.cls_engine.specs.Goals.{Goal}
use Rattle.cls_engine.specs.Sizes.{IsGreatest, IsGreatestOver, IsUnbounded, IsWalk}
use Rattle.cls_engine.proofs.Faulting.{closed-of}
use Rattle.cls_engine.proofs.Languages.{language}

module _ (cost : ℕ → ℕ) (P Q : Applicative → Type 0) (same : (e : Applicative) → P e ↔ Q e) where
  greatest_to : (n : ℕ) → book.IsGreatestSize cost P n → book.IsGreatestSize cost Q n
  greatest_to n g = record {
    bounds = λ e h. g.bounds e ((same e).1 h);
    reached = elim g.reached [ inl h ↦ inl (h.0, (same h.0).0 h.1, h.2) | inr h ↦ inr (h.0, λ e k. h.1 e ((same e).1 k)) ];
  }

module _ (lib : Library) (o : Options) (cost : ℕ → ℕ) (t : ClosedType) (rows : List (Row Goal)) (k : IsKnownOf lib o t rows) where
  abbrev Listed : Applicative → Type 0
  Listed e = IsGenerated (book_of rows) 0 e

  back : (e : Applicative) → HasTypeIn lib e t ↔ Listed e
  back e = let u = language lib o t rows k e in (u.1, u.0)

  pub type-greatest : (a : FiniteAnswer) → IfFinite a (book.IsGreatest (book_of rows) cost) → IfFinite a (IsGreatest lib cost t)
  type-greatest (Finite n) h = greatest_to cost Listed (λ e. HasTypeIn lib e t) (language lib o t rows k) n h
  type-greatest Over h = tt
  type-greatest (Infinite w) h = tt

  pub type-over : (limit : ℕ) → book.IsGreatestOver (book_of rows) cost limit ↔ IsGreatestOver lib cost t limit
  type-over limit = (
    (λ h. (h.0, greatest_to cost Listed (λ e. HasTypeIn lib e t) (language lib o t rows k) h.0 h.1, h.2)),
    (λ h. (h.0, greatest_to cost (λ e. HasTypeIn lib e t) Listed back h.0 h.1, h.2)),
  )

  pub type-unbounded : book.IsUnbounded (book_of rows) cost 0 ↔ IsUnbounded lib cost t
  type-unbounded = (
    (λ h n. let u = h n in (u.0, (language lib o t rows k u.0).0 u.1, u.2)),
    (λ h n. let u = h n in (u.0, (language lib o t rows k u.0).1 u.1, u.2)),
  )

  pub type-walk : (a : FiniteAnswer) → IfInfinite a (book.IsDetermined (book_of rows) cost [] 0) → IfInfinite a (IsWalk lib cost t)
  type-walk (Finite n) h = tt
  type-walk Over h = tt
  type-walk (Infinite w) h = (rows, closed-of lib o t rows k, h)
