-- internal: arrows as the code finds them, by the places of their paths
use Rattle.std.specs.Prelude.{ℕ, zero, suc, ◌≡◌, ◌⊎◌, ◌+◌, ◌++◌, nat_lt, if◌then◌else◌, List, [], ◌∷◌, map, Contains, slice_get, slice_index_or, Option, None, Some}
use Rattle.cls_path.specs.Paths.{TypePath, unit, function, Paths}
use Rattle.cls_library.specs.declared.column.Places.{Places}
use Rattle.cls_library.specs.declared.column.Places.TheVariants.{All, Listed}
use Rattle.cls_library.specs.Arrows.{MultiArrow, leading_arrows}

-- what is left of the path behind its first n arrows
abbrev pub target_at : ℕ → TypePath → TypePath
target_at zero p = p
target_at (suc k) (function n p) = target_at k p
target_at (suc k) p = p

-- what the first n arrows of the path take
abbrev pub sources_at : ℕ → TypePath → List Paths
sources_at zero p = []
sources_at (suc k) (function n p) = n ∷ sources_at k p
sources_at (suc k) p = []

-- the path split at its first n arrows
abbrev pub split_at : ℕ → TypePath → MultiArrow
split_at n p = record { sources = sources_at n p; target = target_at n p }

-- what the arrow with this number takes, if there is one
abbrev pub source_at : ℕ → TypePath → Option Paths
source_at zero (function n p) = Some n
source_at (suc k) (function n p) = source_at k p
source_at _ p = None

-- the places of the paths with at least n leading arrows, counted from i
abbrev pub places_from : ℕ → ℕ → List TypePath → List ℕ
places_from n i [] = []
places_from n i (p ∷ ps) = if nat_lt (leading_arrows p) n then places_from n (i + 1) ps else i ∷ places_from n (i + 1) ps

-- n numbers from i on
abbrev pub numbers_from : ℕ → ℕ → List ℕ
numbers_from i zero = []
numbers_from i (suc n) = i ∷ numbers_from (i + 1) n

-- places as they are kept
abbrev pub places_in : Places → List ℕ
places_in (All n) = numbers_from 0 n
places_in (Listed v) = v.items

-- old, with the position of the place in the column behind it, if the place stands there
abbrev pub PutsPosition : List ℕ → ℕ → List ℕ → List ℕ → Type 0
PutsPosition column place old new =
    ((i : ℕ) × (slice_get column i ≡ Some place) × (new ≡ old ++ i ∷ [])) ⊎ ((Contains column place → ⊥) × (new ≡ old))

-- the paths at these places, each split at its first n arrows
abbrev pub arrows_at_places : ℕ → List TypePath → List ℕ → List MultiArrow
arrows_at_places n paths places = map (λ k. split_at n (slice_index_or paths k unit)) places
