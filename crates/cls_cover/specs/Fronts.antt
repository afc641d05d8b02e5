-- The minimal covers of the first families, with what makes those of one family more.
use Rattle.std.specs.Prelude.{ℕ, ◌≡◌, ◌<◌, ◌↔◌, IsTrue, List, length, map}
use Rattle.cls_base.specs.Terms.{Precedes}
use Rattle.cls_cover.specs.declared.growing.GrowingCovers.{GrowingCovers}
use Rattle.cls_cover.specs.declared.growing.Kind.{Kind}
use Rattle.cls_cover.specs.declared.growing.Kind.TheVariants.{Small, Large}
use Rattle.cls_cover.specs.declared.large.LargeCovers.{LargeCovers}
use Rattle.cls_cover.specs.declared.small.SmallCovers.{SmallCovers}
use Rattle.cls_cover.specs.Flags.{bit}
use Rattle.cls_cover.specs.Members.{Member, Rises}
use Rattle.cls_cover.specs.Rows.{width, AreRows}
use Rattle.cls_cover.specs.Sets.{IsIn, members, AreSetsOf}
use Rattle.cls_cover.specs.Growing.{AreFound, AreWithin}
use Rattle.cls_cover.specs.Choosing.{StandsIn, AreAllCoversOf}

-- The sets are the minimal covers of the first j families, beside the sets of all families and the positions that are seen in
-- the first ones. No first families up to these have more covers than the limit.
pub record AreSmall (families : List (List ℕ)) (limit j : ℕ) (s : SmallCovers) : Type 0 where
  pub sets : AreSetsOf families s.sets.items
  pub seen : (x : ℕ) → IsIn s.seen x ↔ StandsIn families j x
  pub found : AreAllCoversOf families j (map members s.list.items)
  pub within : AreWithin families limit j

-- the same with the rows of all families and the flags of the first ones
pub record AreLarge (families : List (List ℕ)) (limit j : ℕ) (l : LargeCovers) : Type 0 where
  pub rows : AreRows families l.rows.items
  pub wide : length l.flags ≡ width families
  pub exactly : (f : ℕ) → IsTrue (bit l.flags f) ↔ (f < j)
  pub found : AreFound families j l.list.items
  pub within : AreWithin families limit j

abbrev pub AreKept : List (List ℕ) → ℕ → ℕ → Kind → Type 0
AreKept families limit j (Small s) = AreSmall families limit j s
AreKept families limit j (Large l) = AreLarge families limit j l

-- it has the minimal covers of the first j families, and no first families up to these have more than the limit
abbrev pub HasCovers : List (List ℕ) → ℕ → ℕ → GrowingCovers → Type 0
HasCovers families limit j g = AreKept families limit j g.kind

-- internal: all are these sets in lexicographic order
pub record AreInOrder (sets all : List (List ℕ)) : Type 0 where
  pub rises : Rises Precedes all
  pub same : (s : List ℕ) → Member all s ↔ Member sets s
