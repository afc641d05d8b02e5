-- How many terms are held to make a page (its pool), and the size that decides it.
use Rattle.std.specs.Prelude.{ℕ, ◌≡◌, ◌≤◌, ◌<◌, ◌+◌, ◌↔◌, ◌⊎◌, List, length, Contains}
use Rattle.cls_base.specs.Limits.{max_term_length}
use Rattle.cls_base.specs.Lists.{AreDistinct}
use Rattle.cls_base.specs.Terms.{Applicative, length_of, size_of}
use Rattle.cls_base.specs.declared.rule.Rule.{Rule}
use Rattle.cls_base.specs.Languages.{IsGenerated}

-- the rules of each node, and the cost of each component
module _ (book : List (List (Rule ℕ))) (cost : ℕ → ℕ) where
  -- The pair of a node and a term of its language is pooled at size s: the term has a smaller size, or size s where the node is
  -- the start.
  pub record IsPooled (s : ℕ) (p : ℕ × Applicative) : Type 0 where
    pub node : p.0 < length book
    pub generated : IsGenerated book p.0 p.1
    pub short : length_of p.1 ≤ max_term_length
    pub sized : (size_of cost p.1 < s) ⊎ ((p.0 ≡ 0) × (size_of cost p.1 ≡ s))

  -- exactly n pairs are pooled at size s
  abbrev pub PoolIs : ℕ → ℕ → Type 0
  PoolIs s n = (pairs : List (ℕ × Applicative)) × AreDistinct pairs × ((p : ℕ × Applicative) → Contains pairs p ↔ IsPooled s p) × (length pairs ≡ n)

-- The size that decides a page: the least one at which one due term more than is taken exists, or the greatest size.
module _ (Due : Applicative → Type 0) (cost : ℕ → ℕ) (take : ℕ) where
  -- there are take + 1 due terms of size s at most
  abbrev pub IsEnough : ℕ → Type 0
  IsEnough s = (terms : List Applicative) × AreDistinct terms × ((e : Applicative) → Contains terms e → Due e × (size_of cost e ≤ s)) × (length terms ≡ take + 1)

  pub record IsDecidingSize (max s : ℕ) : Type 0 where
    pub within : s ≤ max
    pub none_less : (t : ℕ) → t < s → IsEnough t → ⊥
    pub enough_or_all : IsEnough s ⊎ (s ≡ max)
