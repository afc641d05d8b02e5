-- Targets of arrows suit the variances of names.
use Rattle.std.proofs.Common.{◌≡◌, ℕ, zero, suc, ◌<◌, List, [], ◌∷◌, length, Option, None, Some, subst}
use Rattle.std.specs.Prelude.{slice_get}
use Rattle.std.proofs.lemmas.List.Elements.{All-get_or}
use Rattle.cls_base.specs.Taxonomies.{Variance}
use Rattle.cls_path.specs.Paths.{TypePath, function, Paths, none, more, Suits, SuitsAll}
use Rattle.cls_library.specs.Arrows.{MultiArrow, with_source, split, onto, arrows_of}
use Rattle.cls_library.specs.Libraries.{Library, variances_in, no_component, paths_at, arrows_at, IsWithinLimits, IsLibrary}

module _ (variance : ℕ → Variance) where
  abbrev TargetSuits : Option MultiArrow → Type 0
  TargetSuits None = Unit {0}
  TargetSuits (Some a) = Suits variance a.target

  abbrev AllSuit : List MultiArrow → Type 0
  AllSuit [] = Unit {0}
  AllSuit (a ∷ rest) = Suits variance a.target × AllSuit rest

  suits-source : (n : Paths) (a : Option MultiArrow) → TargetSuits a → TargetSuits (with_source n a)
  suits-source n None h = tt
  suits-source n (Some a) h = h

  suits-split : (k : ℕ) (p : TypePath) → Suits variance p → TargetSuits (split k p)
  suits-split zero p h = h
  suits-split (suc k) (function n p) h = suits-source n (split k p) (suits-split k p h.1)
  suits-split (suc k) _ h = tt

  suits-onto : (a : Option MultiArrow) (rest : List MultiArrow) → TargetSuits a → AllSuit rest → AllSuit (onto a rest)
  suits-onto None rest h k = k
  suits-onto (Some a) rest h k = (h, k)

  suits-arrows : (k : ℕ) (n : Paths) → SuitsAll variance n → AllSuit (arrows_of k n)
  suits-arrows k none h = tt
  suits-arrows k (more p n) h = suits-onto (split k p) (arrows_of k n) (suits-split k p h.0) (suits-arrows k n h.1)

  suits-at : (list : List MultiArrow) (i : ℕ) (a : MultiArrow) → AllSuit list → slice_get list i ≡ Some a → Suits variance a.target
  suits-at [] i a h e = cc
  suits-at (b ∷ list) zero a h e = subst (λ (c : MultiArrow). Suits variance c.target) (let s : b ≡ a = cc in s) h.0
  suits-at (b ∷ list) (suc i) a h e = suits-at list i a h.1 e

-- the target of each arrow of a library suits
pub library-suits : (l : Library) (x n i : ℕ) (a : MultiArrow) → IsLibrary l → x < length l.components → slice_get (arrows_at l x n) i ≡ Some a → Suits (variances_in l.taxonomy) a.target
library-suits l x n i a h within e =
    suits-at (variances_in l.taxonomy) (arrows_at l x n) i a (suits-arrows (variances_in l.taxonomy) n (paths_at l x) (All-get_or (IsWithinLimits l.taxonomy) l.components x no_component within h.each).normal.suits) e
