-- Bounds of how many terms are held to make a page, and of how many are due.
use Rattle.std.specs.Prelude.{ℕ, ◌+◌, nat_le, if◌then◌else◌, Option, None, Some}
use Rattle.cls_base.specs.Terms.{Applicative, size_of}
use Rattle.cls_walk.specs.Counts.{total_below}

-- count t n is a number for the terms of node n of size t, and there are `width` nodes
module _ (count : ℕ → ℕ → ℕ) where
  -- all nodes and all sizes below s together
  abbrev pub total_made : ℕ → ℕ → ℕ
  total_made width s = total_below s (λ t. total_below width (λ n. count t n))

  -- and with those of node 0 of size s
  abbrev pub total_held : ℕ → ℕ → ℕ
  total_held width s = total_made width s + count s 0

  -- node 0 alone, from one size to below another
  abbrev pub total_due : ℕ → ℕ → ℕ
  total_due from s = total_below s (λ t. if nat_le from t then count t 0 else 0)

-- the size of the cursor, 0 where there is none
abbrev pub cursor_size : (ℕ → ℕ) → Option Applicative → ℕ
cursor_size cost None = 0
cursor_size cost (Some a) = size_of cost a
