-- What is answered of the sizes of a grammar's terms.
use Rattle.std.specs.Prelude.{ℕ, List}
use Rattle.cls_finite.specs.declared.walk.Step.{Step}
use Rattle.cls_finite.specs.declared.answer.FiniteAnswer.{FiniteAnswer}
use Rattle.cls_finite.specs.declared.answer.FiniteAnswer.TheVariants.{Finite, Over, Infinite}

-- P holds of the size, if the answer is one
abbrev pub IfFinite : FiniteAnswer → (ℕ → Type 0) → Type 0
IfFinite (Finite n) P = P n
IfFinite Over P = Unit {0}
IfFinite (Infinite walk) P = Unit {0}

-- P holds of the walk, if the answer is one
abbrev pub IfInfinite : FiniteAnswer → (List Step → Type 0) → Type 0
IfInfinite (Finite n) P = Unit {0}
IfInfinite Over P = Unit {0}
IfInfinite (Infinite walk) P = P walk

abbrev pub IsInfinite : FiniteAnswer → Type 0
IsInfinite (Finite n) = ⊥
IsInfinite Over = ⊥
IsInfinite (Infinite walk) = Unit {0}
