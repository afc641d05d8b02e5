-- internal: how codes begin, with a component and its number of arguments
use Rattle.std.specs.Prelude.{ℕ, ◌≡◌, ◌<◌, ◌≤◌, ◌⊎◌, List, length, take, slice_index_or, Option, None, Some, IfSome}
use Rattle.cls_walk.specs.declared.opening.Opening.{Opening}

-- codes that begin with the opening come before those that begin with this component and number
abbrev pub IsBelow : Opening → ℕ → ℕ → Type 0
IsBelow o x k = (o.component < x) ⊎ ((o.component ≡ x) × (o.count < k))

-- or the opening is this component and number
abbrev pub IsAtMost : Opening → ℕ → ℕ → Type 0
IsAtMost o x k = (o.component < x) ⊎ ((o.component ≡ x) × (o.count ≤ k))

-- they come after the last opening, where there is one
abbrev pub ComesAfter : Option Opening → ℕ → ℕ → Type 0
ComesAfter last x k = IfSome last (λ l. IsBelow l x k)

-- the opening is there, and is not later than these
abbrev pub IsReached : Option Opening → ℕ → ℕ → Type 0
IsReached None x k = ⊥
IsReached (Some o) x k = IsAtMost o x k

-- the last opening is there, and is not earlier than these
abbrev pub IsDone : Option Opening → ℕ → ℕ → Type 0
IsDone None x k = ⊥
IsDone (Some o) x k = (x < o.component) ⊎ ((x ≡ o.component) × (k ≤ o.count))

-- what is read past the end of a list of openings
abbrev pub no_opening : Opening
no_opening = record { component = 0; count = 0 }

-- this component and number make one of the openings from this place on
pub record IsGathered (first : ℕ) (os : List Opening) (x k : ℕ) : Type 0 where
  pub place : ℕ
  pub from : first ≤ place
  pub within : place < length os
  pub component : (slice_index_or os place no_opening).component ≡ x
  pub count : (slice_index_or os place no_opening).count ≡ k

-- each opening from this place on is below those behind it
abbrev pub AreRising : ℕ → List Opening → Type 0
AreRising first os =
    (i j : ℕ) → first ≤ i → i < j → j < length os
    → let later = slice_index_or os j no_opening in
    IsBelow (slice_index_or os i no_opening) later.component later.count

-- Openings are put among those from this place on, which rise: those before it stay, and none is lost.
pub record ArePut (first : ℕ) (old new : List Opening) : Type 0 where
  pub within : first ≤ length new
  pub before : take first new ≡ take first old
  pub rising : AreRising first new
  pub kept : (x k : ℕ) → IsGathered first old x k → IsGathered first new x k

-- The opening comes after the last one, and none with P that comes after the last one is earlier. If it is missing, none
-- with P comes after the last one.
pub record IsEarliest (P : ℕ → ℕ → Type 0) (last best : Option Opening) : Type 0 where
  pub after : IfSome best (λ b. ComesAfter last b.component b.count)
  pub reached : (x k : ℕ) → P x k → ComesAfter last x k → IsReached best x k
