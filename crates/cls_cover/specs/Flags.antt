-- Flags in words of 64
use Rattle.std.specs.Prelude.{ℕ, zero, suc, ◌≡◌, ◌/◌, ◌%◌, Bool, true, false, IsTrue, not, ◌&&◌, ◌||◌, List, slice_index_or}
use Rattle.std.specs.Int.{bit_at}

abbrev pub is_one : ℕ → Bool
is_one zero = false
is_one (suc n) = true

-- whether flag f is set; none is set beyond the words
abbrev pub bit : List ℕ → ℕ → Bool
bit words f = is_one (bit_at (slice_index_or words (f / 64) 0) (f % 64))

-- a flag is set in all three
abbrev pub AreShared : List ℕ → List ℕ → List ℕ → Type 0
AreShared once front row = (f : ℕ) × IsTrue (bit once f) × IsTrue (bit front f) × IsTrue (bit row f)

-- and not in the other one
abbrev pub AreSharedApart : List ℕ → List ℕ → List ℕ → List ℕ → Type 0
AreSharedApart once front row other =
    (f : ℕ) × IsTrue (bit once f) × IsTrue (bit front f) × IsTrue (bit row f) × (IsTrue (bit other f) → ⊥)

-- the flags of what is met once and of what is met where a position with this row joins
abbrev pub AreJoined : List ℕ → List ℕ → List ℕ → List ℕ → List ℕ → Type 0
AreJoined once met row once' met' =
    (f : ℕ) → (bit once' f ≡ ((bit once f && not (bit row f)) || (bit row f && not (bit met f))))
    × (bit met' f ≡ (bit met f || bit row f))
