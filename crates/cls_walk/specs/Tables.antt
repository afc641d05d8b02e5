-- internal: tables of numbers by size and node, as they are kept. A number that is too great for its type stands as the
-- greatest that isn't.
use Rattle.std.specs.Prelude.{ℕ, ◌≡◌, ◌-◌, ◌^◌, ◌<◌, min, List, [], length, slice_index, slice_index_or}
use Rattle.cls_walk.specs.Counts.{ways}

abbrev pub capped : ℕ → ℕ
capped n = min n (2 ^ 64 - 1)

-- A table is the numbers of the nodes for size 0, for size 1 and so on. What isn't there yet is 0.
abbrev pub number_at : List (List ℕ) → ℕ → ℕ → ℕ
number_at table size node = slice_index (slice_index_or table size []) node

-- for each rest up to the last, in how many ways terms of the nodes come to it
abbrev pub AreWays : (ℕ → ℕ → ℕ) → List ℕ → List ℕ → Type 0
AreWays count ns list = (r : ℕ) → r < length list → slice_index list r ≡ capped (ways count ns r)

-- the table has these numbers for all sizes below s, each capped
abbrev pub Holds : (ℕ → ℕ → ℕ) → ℕ → List (List ℕ) → Type 0
Holds count s table = (length table ≡ s) × ((t n : ℕ) → number_at table t n ≡ capped (count t n))
