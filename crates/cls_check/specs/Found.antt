-- internal: positions of arrows that are found by families
use Rattle.std.specs.Prelude.{ℕ, ◌<◌, ◌⊎◌, ◌↔◌, List, length, Contains}
use Rattle.cls_path.specs.Paths.{TypePath}
use Rattle.cls_library.specs.Arrows.{MultiArrow}
use Rattle.cls_check.specs.Deciding.{arrow_of}

-- the new positions are the old ones and those of the arrows whose targets have the property
abbrev pub Adds : List MultiArrow → (TypePath → Type 0) → List ℕ → List ℕ → Type 0
Adds arrows Leads old new =
    (k : ℕ) → Contains new k ↔ (Contains old k ⊎ ((k < length arrows) × Leads (arrow_of arrows k).target))

-- the path has one of the first i properties
abbrev pub HasOne : (ℕ → TypePath → Type 0) → ℕ → TypePath → Type 0
HasOne Leads i p = (k : ℕ) × (k < i) × Leads k p
