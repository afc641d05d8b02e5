-- internal: chains of places of one kind
use Rattle.std.specs.Prelude.{ℕ, ◌≡◌, ◌<◌, ◌≤◌, List, length, slice_index_or}

-- For each kind below count the first place of it from the place m on, and for each such place the next one of its kind. A
-- number that is no place ends a chain.
pub record AreChained (m count : ℕ) (kinds firsts next : List ℕ) : Type 0 where
  pub count_firsts : length firsts ≡ count
  pub count_next : length next ≡ length kinds
  pub later : (k : ℕ) → k < count → m ≤ slice_index_or firsts k 0
  pub starts :
      (k : ℕ) → k < count → slice_index_or firsts k 0 < length kinds → slice_index_or kinds (slice_index_or firsts k 0) 0 ≡ k
  pub reached : (i : ℕ) → m ≤ i → i < length kinds → slice_index_or firsts (slice_index_or kinds i 0) 0 ≤ i
  pub onward : (i : ℕ) → m ≤ i → i < length kinds → i < slice_index_or next i 0
  pub stays :
      (i : ℕ) → m ≤ i → i < length kinds → slice_index_or next i 0 < length kinds
      → slice_index_or kinds (slice_index_or next i 0) 0 ≡ slice_index_or kinds i 0
  pub passes :
      (i j : ℕ) → m ≤ i → i < j → j < length kinds → slice_index_or kinds j 0 ≡ slice_index_or kinds i 0
      → slice_index_or next i 0 ≤ j
