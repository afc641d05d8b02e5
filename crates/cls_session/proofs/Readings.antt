-- How the lines of a repository are taken one more, and what a fault says.
use Rattle.std.proofs.Common.{◌≡◌, ℕ, List, [], ◌∷◌, ◌++◌, refl, sym, ap, ◌∙◌, subst, inl, inr, true, false}
use Rattle.cls_repo.specs.Readings.{Reading, no_reading, Takes, TakesAll}
use Rattle.cls_repo.specs.FaultWords.{fault_words, OnWords}
use Rattle.cls_repo.specs.declared.fault.FaultKind.{FaultKind}
use Rattle.cls_repo.specs.declared.fault.FaultKind.TheVariants as kinds
use Rattle.cls_session.specs.Repositories.{AreTaken}

both : true ≡ false → ⊥
both e = cc

taken_on : (old : Reading) (lines : List (List ℕ)) (line : List ℕ) (r r' : Reading) → TakesAll old lines r → r.ended ≡ false → Takes r line r' → r'.ended ≡ false → TakesAll old (lines ++ line ∷ []) r'
taken_on old [] line r r' e f t g = (r', subst (λ (x : Reading). Takes x line r') e t, inr (g, refl))
taken_on old (l ∷ lines) line r r' (next, first, inl (ended, e)) f t g = absurd (both (sym ended ∙ (ap (λ (x : Reading). x.ended) (sym e) ∙ f)))
taken_on old (l ∷ lines) line r r' (next, first, inr (going, rest)) f t g = (next, first, inr (going, taken_on next lines line r r' rest f t g))

-- a further line is taken that isn't `end`
pub AreTaken-push : (lines : List (List ℕ)) (line : List ℕ) (r r' : Reading) → AreTaken lines r → Takes r line r' → r'.ended ≡ false → AreTaken (lines ++ line ∷ []) r'
AreTaken-push lines line r r' a t g = record { taken = taken_on no_reading lines line r r' a.taken a.unended t g; unended = g }

-- what is said of the words of a fault that isn't out of memory
pub on_words : (P : List ℕ → Type 0) (kind : FaultKind) → (kind ≡ kinds.OutOfMemory → ⊥) → OnWords P kind → P (fault_words kind)
on_words P kinds.LineTooLong n h = h
on_words P kinds.NotUtf8 n h = h
on_words P kinds.UnknownDirective n h = h
on_words P kinds.TooDeep n h = h
on_words P (kinds.Unexpected x) n h = h
on_words P (kinds.ReservedName x) n h = h
on_words P kinds.TooManyNodes n h = h
on_words P (kinds.DuplicateComponent x) n h = h
on_words P (kinds.DuplicateKind x) n h = h
on_words P (kinds.EmptyKind x) n h = h
on_words P (kinds.KindHasVariable x) n h = h
on_words P (kinds.UnknownComponent x) n h = h
on_words P (kinds.BadHole x) n h = h
on_words P (kinds.HoleZero x) n h = h
on_words P (kinds.HoleOver16 x) n h = h
on_words P (kinds.CostOutOfRange x) n h = h
on_words P (kinds.DuplicateVariance x) n h = h
on_words P (kinds.UnknownFilter x) n h = h
on_words P (kinds.DuplicateFilter x) n h = h
on_words P (kinds.TooManyStates x) n h = h
on_words P kinds.NoEnd n h = h
on_words P (kinds.Cycle x) n h = h
on_words P (kinds.VarianceMix x) n h = h
on_words P kinds.TooManyComponents n h = h
on_words P kinds.LibraryTooLarge n h = h
on_words P (kinds.UnknownVariable x) n h = h
on_words P (kinds.TooManyInstances x) n h = h
on_words P (kinds.InstanceTooLarge x) n h = h
on_words P (kinds.ArityTooLarge x) n h = h
on_words P kinds.OutOfMemory n h = absurd (n refl)

-- what follows from what is said of the words
pub said_weaker : (P Q : List ℕ → Type 0) → ((words : List ℕ) → P words → Q words) → (kind : FaultKind) → OnWords P kind → OnWords Q kind
said_weaker P Q f kinds.OutOfMemory h = tt
said_weaker P Q f _ h = f _ h
