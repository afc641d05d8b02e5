-- How far the terms are made, and what that says of the page.
use Rattle.std.specs.Prelude.{ℕ, ◌≡◌, ◌≤◌, ◌<◌, ◌*◌, ◌+◌, ◌↔◌, ◌⊎◌, List, [], length, map, slice_index_or, Contains}
use Rattle.cls_base.specs.Limits.{max_term_length}
use Rattle.cls_base.specs.Terms.{Applicative, length_of, size_of}
use Rattle.cls_base.specs.declared.rule.Rule.{Rule}
use Rattle.cls_base.specs.Languages.{IsGenerated}
use Rattle.cls_base.specs.Pages.{Request, IsDue, Rises}
use Rattle.cls_base.specs.Pools.{PoolIs, IsDecidingSize}
use Rattle.cls_base.specs.Lists.{AreDistinct, AreBelow}
use Rattle.cls_term.specs.Banks.{at}
use Rattle.cls_enum.specs.Members.{IsIn}
use Rattle.cls_enum.specs.Candidates.{IsInCell}
use Rattle.cls_enum.specs.CellTables.{cell_of}

module _ (book : List (List (Rule ℕ))) (r : Request) where
  abbrev pub IsTerm : Applicative → Type 0
  IsTerm e = IsGenerated book 0 e

  -- The pair of a node and a term of its language is made: the term has a smaller size than s, or size s where the node is below i.
  pub record IsMade (s i : ℕ) (p : ℕ × Applicative) : Type 0 where
    pub node : p.0 < length book
    pub generated : IsGenerated book p.0 p.1
    pub short : length_of p.1 ≤ max_term_length
    pub so_far : (size_of r.cost p.1 < s) ⊎ ((p.0 < i) × (size_of r.cost p.1 ≡ s))

  -- The terms of smaller sizes are made, and those of this size of the nodes below i, each once; and the due ones among those of node 0 are listed.
  pub record IsState (s i : ℕ) (pairs : List (ℕ × Applicative)) (due : List Applicative) : Type 0 where
    pub made : (p : ℕ × Applicative) → Contains pairs p ↔ IsMade s i p
    pub once : AreDistinct pairs
    pub rises : Rises r.cost due
    pub listed : (e : Applicative) → Contains due e ↔ (IsDue IsTerm r e × ((size_of r.cost e < s) ⊎ ((0 < i) × (size_of r.cost e ≡ s))))

  -- more pairs than the bound are made, each once
  abbrev pub IsOverfullAt : ℕ → ℕ → ℕ → Type 0
  IsOverfullAt s i pool = (pairs : List (ℕ × Applicative)) × AreDistinct pairs × ((p : ℕ × Applicative) → Contains pairs p → IsMade s i p) × (pool < length pairs)

  -- More pairs than the bound are pooled at the deciding size.
  abbrev pub ExceedsPool : ℕ → Type 0
  ExceedsPool pool = (s n : ℕ) → IsDecidingSize (IsDue IsTerm r) r.cost r.take r.max s → PoolIs book r.cost s n → pool < n

  -- At most as many pairs as the bound are pooled at the deciding size.
  abbrev pub FitsPool : ℕ → Type 0
  FitsPool pool = (s n : ℕ) → IsDecidingSize (IsDue IsTerm r) r.cost r.take r.max s → PoolIs book r.cost s n → n ≤ pool

  -- The state as it is kept: terms by number, a table of cells with a cell for each node of each smaller size and for the nodes below i of this size, the numbers of the due terms, and how many pairs are made.
  pub record IsKept (s i : ℕ) (terms : List Applicative) (cells : ℕ × List (List ℕ)) (due : List ℕ) (total : ℕ) : Type 0 where
    pub pairs : List (ℕ × Applicative)
    pub state : IsState s i pairs (map (at terms) due)
    pub counted : length pairs ≡ total
    pub width : cells.0 ≡ length book
    pub cells_made : length cells.1 ≡ s * cells.0 + i
    pub below : (j : ℕ) → AreBelow (length terms) (slice_index_or cells.1 j [])
    pub exact : (t n : ℕ) → (t < s) ⊎ ((n < i) × (t ≡ s)) → (e : Applicative) → IsIn (cell_of terms cells t n) e ↔ IsInCell book r.cost n t e
    pub due_below : AreBelow (length terms) due

  -- The page is known: for a size, the terms of node 0 of this size are made, too, and there is a due one more than is taken, or the size is the greatest.
  pub record IsDone (terms : List Applicative) (due : List ℕ) (pool : ℕ) : Type 0 where
    pub size : ℕ
    pub pairs : List (ℕ × Applicative)
    pub state : IsState size 1 pairs (map (at terms) due)
    pub within_max : size ≤ r.max
    pub within_pool : length pairs ≤ pool
    pub decides : (r.take < length due) ⊎ (size ≡ r.max)
