-- What holds of every rule book and request.
use Rattle.std.specs.Prelude.{ℕ, ◌≡◌, ◌≤◌, ◌<◌, ◌⊎◌, List, length}
use Rattle.cls_base.specs.declared.rule.Rule.{Rule}
use Rattle.cls_base.specs.Pages.{Request, IsDue}
use Rattle.cls_base.specs.Pools.{PoolIs, IsEnough}
use Rattle.cls_enum.specs.States.{IsTerm, ExceedsPool, FitsPool}
use Rattle.cls_walk.specs.Counts.{up_below, lo_below}
use Rattle.cls_walk.specs.Orders.{IsOrdered}
use Rattle.cls_walk.specs.Totals.{total_held, total_due, cursor_size}

-- Where the bounds for all sizes below `known` are there, and s is one of these sizes:
module _ (book : List (List (Rule ℕ))) (r : Request) (known s : ℕ) where
  -- at least so many pairs are pooled at s, and at most so many
  abbrev pub fewest : ℕ
  fewest = total_held (lo_below book r.cost known) (length book) s

  abbrev pub most : ℕ
  most = total_held (up_below book r.cost known) (length book) s

  abbrev pub PoolIsBetween : Type 0
  PoolIsBetween = (n : ℕ) × PoolIs book r.cost s n × (fewest ≤ n) × (n ≤ most)

  -- at most so many due terms are smaller than s
  abbrev pub most_due : ℕ
  most_due = total_due (up_below book r.cost known) (cursor_size r.cost r.after) s

  -- No page is full below s, and the pool at s is over the bound. So there are too many terms.
  abbrev pub IsRefused : ℕ → Type 0
  IsRefused pool = most_due ≤ r.take → pool < fewest → ExceedsPool book r pool

  -- The page is known at s, and the pool at s is within the bound. So there are not too many.
  abbrev pub IsAccepted : ℕ → Type 0
  IsAccepted pool =
      IsEnough (IsDue (IsTerm book r) r) r.cost r.take s ⊎ (s ≡ r.max) → most ≤ pool → FitsPool book r pool

-- the book has a node, and each component costs something
pub record IsCounted (book : List (List (Rule ℕ))) (cost : ℕ → ℕ) : Type 0 where
  pub some : 0 < length book
  pub positive : (x : ℕ) → 1 ≤ cost x
  pub ordered : IsOrdered book

abbrev pub EachPoolIsBounded : Type 0
EachPoolIsBounded = (book : List (List (Rule ℕ))) (r : Request) → IsCounted book r.cost
    → (known s : ℕ) → s < known → PoolIsBetween book r known s

abbrev pub CountsDecide : Type 0
CountsDecide = (book : List (List (Rule ℕ))) (r : Request) → IsCounted book r.cost
    → (known s : ℕ) → s < known → s ≤ r.max
    → (pool : ℕ) → IsRefused book r known s pool × IsAccepted book r known s pool
