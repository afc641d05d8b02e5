-- internal: numbers in the order in which they were added, with the place of each
use Rattle.std.specs.Prelude.{ℕ, ◌≡◌, ◌<◌, ◌^◌, List, Option, Some, None, Contains, length, slice_get}
use Rattle.cls_base.specs.Lists.{AreDistinct}

-- the numbers in their order, all of which are below the bound
pub record Numbered : Type 0 where
  pub order : List ℕ
  pub bound : ℕ

-- the places of the numbers below the bound
pub record HasPlaces (order : List ℕ) (places : List (Option ℕ)) : Type 0 where
  pub distinct : AreDistinct order
  pub few : length places < 2 ^ 32
  pub within : (n : ℕ) → Contains order n → n < length places
  pub known : (n p : ℕ) → slice_get places n ≡ Some (Some p) → slice_get order p ≡ Some n
  pub unknown : (n : ℕ) → slice_get places n ≡ Some None → Contains order n → ⊥
