-- internal: the causes of a fault, over membership as a data family
use Rattle.std.specs.Prelude.{ℕ, ◌<◌, ◌≤◌, List, length, take}
use Rattle.cls_cover.specs.MemberCovers.{HaveMoreSets}
use Rattle.cls_cover.specs.declared.minimal.CoverFault.{CoverFault}
use Rattle.cls_cover.specs.declared.minimal.CoverFault.TheVariants.{TooManyCovers, OutOfMemory}

-- the first j families have more minimal covers than the limit, and no fewer of them have
pub record AreTooManySets (families : List (List ℕ)) (limit j : ℕ) : Type 0 where
  pub within : j ≤ length families
  pub over : HaveMoreSets (take j families) limit
  pub least : (i : ℕ) → i < j → HaveMoreSets (take i families) limit → ⊥

abbrev pub HasCauseInside : List (List ℕ) → ℕ → CoverFault → Type 0
HasCauseInside families limit (TooManyCovers j) = AreTooManySets families limit j
HasCauseInside families limit OutOfMemory = Unit {0}
