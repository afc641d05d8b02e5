-- What the engine finds of the sizes of a type's terms is what is told.
use Rattle.std.proofs.Common.{◌≡◌, ℕ, inl, inr, refl}
use Rattle.std.specs.Prelude.{◌↔◌}
use Rattle.std.proofs.lemmas.Bool.{cases_lt}
use Rattle.cls_base.specs.Types.{ClosedType}
use Rattle.cls_base.specs.Limits.{max_finite_size}
use Rattle.cls_finite.specs.declared.answer.FiniteAnswer.{FiniteAnswer}
use Rattle.cls_finite.specs.declared.answer.FiniteAnswer.TheVariants.{Finite, Over, Infinite}
use Rattle.cls_finite.specs.Answers.{IfFinite, IfInfinite, IsInfinite}
use Rattle.cls_library.specs.Libraries.{Library}
use Rattle.cls_engine.specs.Sizes.{IsGreatest, IsGreatestOver, IsUnbounded, IsWalk}
use Rattle.cls_replies.specs.Replies.{TellsSizes}

not_over : (n : ℕ) → ◌≡◌ {A = FiniteAnswer} (Finite n) Over → ⊥
not_over n e = cc

module _ (lib : Library) (cost : ℕ → ℕ) (t : ClosedType) where
  pub tells_sizes : (sizes : FiniteAnswer) → IfFinite sizes (IsGreatest lib cost t) → (sizes ≡ Over) ↔ IsGreatestOver lib cost t max_finite_size
      → IsInfinite sizes ↔ IsUnbounded lib cost t → IfInfinite sizes (IsWalk lib cost t) → TellsSizes lib cost t sizes
  tells_sizes (Finite n) g o u w = (g, elim (cases_lt max_finite_size n) [ inl l ↦ absurd (not_over n (o.1 (n, g, l))) | inr h ↦ h ])
  tells_sizes Over g o u w = o.0 refl
  tells_sizes (Infinite walk) g o u w = (u.0 tt, w)
