-- internal: tables of the bounds of the numbers of terms, and what a bound tells
use Rattle.std.specs.Prelude.{ℕ, ◌≡◌, ◌≤◌, List}
use Rattle.cls_base.specs.declared.rule.Rule.{Rule}
use Rattle.cls_walk.specs.Counts.{up_below, lo_below}
use Rattle.cls_walk.specs.Tables.{capped, Holds}

-- the upper bounds, or the lower ones, for all sizes below s
module _ (book : List (List (Rule ℕ))) (cost : ℕ → ℕ) (s : ℕ) where
  abbrev pub HasUpper : List (List ℕ) → Type 0
  HasUpper table = Holds (up_below book cost s) s table

  abbrev pub HasLower : List (List ℕ) → Type 0
  HasLower table = Holds (lo_below book cost s) s table

-- no number that is kept as `held` is over the pool
abbrev pub IsWithin : ℕ → ℕ → Type 0
IsWithin pool held = (n : ℕ) → capped n ≡ held → n ≤ pool
