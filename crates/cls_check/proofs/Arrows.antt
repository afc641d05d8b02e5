-- What the arrows of a library take are normal forms.
use Rattle.std.proofs.Common.{ℕ, zero, suc, ◌<◌, List, [], ◌∷◌, length, get_or, Option, None, Some}
use Rattle.std.proofs.lemmas.List.Elements.{All-get_or}
use Rattle.cls_base.specs.Taxonomies.{Variance}
use Rattle.cls_path.specs.Paths.{TypePath, function, Paths, none, more, Suits, SuitsAll}
use Rattle.cls_path.specs.NormalForms.{IsCanonicalPath, IsCanonical, IsNormal}
use Rattle.cls_library.specs.Arrows.{MultiArrow, with_source, split, onto, arrows_of}
use Rattle.cls_library.specs.Libraries.{Library, below_in, variances_in, no_component, paths_at, arrows_at, IsWithinLimits, IsLibrary}
use Rattle.cls_check.specs.Arguments.{no_arrow}

module _ (below : ℕ → ℕ → Type 0) (variance : ℕ → Variance) where
  abbrev Normal : Paths → Type 0
  Normal n = IsNormal below variance n

  abbrev TakesNormal : MultiArrow → Type 0
  TakesNormal a = (i : ℕ) → Normal (get_or a.sources i none)

  abbrev MayTake : Option MultiArrow → Type 0
  MayTake None = Unit {0}
  MayTake (Some a) = TakesNormal a

  abbrev AllTake : List MultiArrow → Type 0
  AllTake [] = Unit {0}
  AllTake (a ∷ rest) = TakesNormal a × AllTake rest

  normal-none : Normal none
  normal-none = record { suits = tt; canonical = tt }

  normal-source : (n : Paths) (a : Option MultiArrow) → Normal n → MayTake a → MayTake (with_source n a)
  normal-source n None h k = tt
  normal-source n (Some a) h k = at
    where
      at : (i : ℕ) → Normal (get_or (n ∷ a.sources) i none)
      at zero = h
      at (suc i) = k i

  normal-split : (k : ℕ) (p : TypePath) → Suits variance p → IsCanonicalPath below variance p → MayTake (split k p)
  normal-split zero p s c = λ i. normal-none
  normal-split (suc k) (function n p) s c = normal-source n (split k p) (record { suits = s.0; canonical = c.0 }) (normal-split k p s.1 c.1)
  normal-split (suc k) _ s c = tt

  normal-onto : (a : Option MultiArrow) (rest : List MultiArrow) → MayTake a → AllTake rest → AllTake (onto a rest)
  normal-onto None rest h k = k
  normal-onto (Some a) rest h k = (h, k)

  normal-arrows : (k : ℕ) (n : Paths) → SuitsAll variance n → IsCanonical below variance n → AllTake (arrows_of k n)
  normal-arrows k none s c = tt
  normal-arrows k (more p n) s c = normal-onto (split k p) (arrows_of k n) (normal-split k p s.0 c.0) (normal-arrows k n s.1 c.2)

  normal-at : (arrows : List MultiArrow) (k : ℕ) → AllTake arrows → TakesNormal (get_or arrows k no_arrow)
  normal-at [] k h = λ i. normal-none
  normal-at (a ∷ arrows) zero h = h.0
  normal-at (a ∷ arrows) (suc k) h = normal-at arrows k h.1

pub takes_normal : (l : Library) (x n k i : ℕ) → IsLibrary l → x < length l.components → IsNormal (below_in l.taxonomy) (variances_in l.taxonomy) (get_or (get_or (arrows_at l x n) k no_arrow).sources i none)
takes_normal l x n k i is within =
    let h = (All-get_or (IsWithinLimits l.taxonomy) l.components x no_component within is.each).normal in
    normal-at (below_in l.taxonomy) (variances_in l.taxonomy) (arrows_at l x n) k (normal-arrows (below_in l.taxonomy) (variances_in l.taxonomy) n (paths_at l x) h.suits h.canonical) i
