-- internal: the index of the sets of a layer, each under two of its numbers
use Rattle.std.specs.Prelude.{ℕ, ◌≡◌, ◌⊎◌, ◌<◌, List, [], length, All, Contains, slice_index_or}
use Rattle.cls_base.specs.Lists.{AreBelow}

abbrev pub at : List (List ℕ) → ℕ → List ℕ
at lists i = slice_index_or lists i []

-- the set with this number stands among the small ones, or under two different numbers that it has
abbrev pub IsPut : List (List ℕ) → List ℕ → List ℕ → ℕ → Type 0
IsPut under small t k =
    Contains small k
    ⊎ ((a b : ℕ) × Contains t a × Contains t b × (a ≡ b → ⊥) × Contains (at under a) k × Contains (at under b) k)

-- so it is for the first i sets of the layer
pub record AreIndexed (count : ℕ) (layer : List (List ℕ)) (i : ℕ) (under : List (List ℕ)) (small : List ℕ)
    : Type 0 where
  pub counted : length under ≡ count
  pub put : (k : ℕ) → k < i → IsPut under small (slice_index_or layer k []) k
  pub under_below : All (AreBelow (length layer)) under
  pub small_below : AreBelow (length layer) small
