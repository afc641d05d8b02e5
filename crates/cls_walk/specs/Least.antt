-- internal: the least sizes of nodes, as they are raised
use Rattle.std.specs.Prelude.{ℕ, ◌≡◌, ◌+◌, ◌≤◌, List, slice_index}
use Rattle.cls_enum.specs.Members.{IsIn}
use Rattle.cls_walk.specs.Counts.{HeadRule}
use Rattle.cls_walk.specs.Filled.{needs}

-- none is over `most`, and past the last node there is none
pub record AreWithin (width most : ℕ) (least : List ℕ) : Type 0 where
  pub small : (n : ℕ) → slice_index least n ≤ most
  pub none : (n : ℕ) → width ≤ n → slice_index least n ≡ 0

-- the greatest number that is at most `most` and at most what any of the forms comes to
pub record IsLeastOf (cost : ℕ → ℕ) (least : List ℕ) (most : ℕ) (forms : List HeadRule) (best : ℕ) : Type 0 where
  pub within : best ≤ most
  pub below : (h : HeadRule) → IsIn forms h → best ≤ cost h.0 + needs least h.1
  pub greatest : (k : ℕ) → k ≤ most → ((h : HeadRule) → IsIn forms h → k ≤ cost h.0 + needs least h.1) → k ≤ best
