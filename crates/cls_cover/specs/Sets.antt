-- Sets of positions below 128, each as a number of 128 bits
use Rattle.std.specs.Prelude.{ℕ, zero, suc, ◌≡◌, ◌+◌, ◌-◌, ◌<◌, ◌↔◌, List, [], ◌∷◌, length, map, slice_index, cond}
use Rattle.std.specs.Int.{bit_at}
use Rattle.cls_cover.specs.Flags.{is_one}
use Rattle.cls_cover.specs.Members.{Member}
use Rattle.cls_cover.specs.Rows.{family_at}

-- The position is in the set. Position 0 is the greatest bit, so that sets fall as numbers where their lists rise.
abbrev pub IsIn : ℕ → ℕ → Type 0
IsIn set x = (x < 128) × (bit_at set (127 - x) ≡ 1)

-- the positions that the lowest n bits of the set stand for, ascending
unfoldable pub lowest : ℕ → ℕ → List ℕ
lowest set zero = []
lowest set (suc n) = cond (is_one (bit_at set n)) ((127 - n) ∷ lowest set n) (lowest set n)

-- the positions of the set, ascending
unfoldable pub members : ℕ → List ℕ
members set = lowest set 128

-- The positions that a half of a set stands for, ascending, where its first one is given. By itself the half is a set
-- of positions from 64 on.
abbrev pub members_of_half : ℕ → ℕ → List ℕ
members_of_half half first = map (λ x. x + first - 64) (members half)

-- the number is the set of the positions
abbrev pub IsSetOf : List ℕ → ℕ → Type 0
IsSetOf positions set = (x : ℕ) → IsIn set x ↔ Member positions x

-- the set has one position
abbrev pub IsSingle : ℕ → Type 0
IsSingle set = (x : ℕ) × ((y : ℕ) → IsIn set y ↔ (y ≡ x))

-- for each family its set
pub record AreSetsOf (families : List (List ℕ)) (sets : List ℕ) : Type 0 where
  pub same : length sets ≡ length families
  pub each : (f : ℕ) → f < length families → IsSetOf (family_at families f) (slice_index sets f)

-- one of the first n sets shares this position alone with the set
pub record MeetsAlone (sets : List ℕ) (n set x : ℕ) : Type 0 where
  pub place : ℕ
  pub within : place < n
  pub has : IsIn (slice_index sets place) x
  pub alone : (z : ℕ) → IsIn (slice_index sets place) z → IsIn set z → z ≡ x
