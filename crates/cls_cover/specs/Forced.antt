-- families of one position each
use Rattle.std.specs.Prelude.{ℕ, ◌≡◌, ◌↔◌, List}
use Rattle.cls_cover.specs.Members.{Member, Ascending}
use Rattle.cls_cover.specs.Growing.{single}

abbrev pub AreSingle : List (List ℕ) → Type 0
AreSingle families = (family : List ℕ) → Member families family → (x : ℕ) × (family ≡ single x)

-- each family has one position, and the cover has these
pub record IsForced (families : List (List ℕ)) (cover : List ℕ) : Type 0 where
  pub ascending : Ascending cover
  pub single_each : AreSingle families
  pub exactly : (x : ℕ) → Member cover x ↔ Member families (single x)
