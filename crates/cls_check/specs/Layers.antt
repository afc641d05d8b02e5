-- internal: sets of positions, and what one set lacks of another
use Rattle.std.specs.Prelude.{ℕ, ◌≡◌, ◌⊎◌, ◌↔◌, Bool, false, IsTrue, List, ◌∷◌, All, Contains, slice_index_or}
use Rattle.cls_base.specs.Lists.{AreBelow}
use Rattle.cls_check.specs.declared.lack.Lack.{Lack}
use Rattle.cls_check.specs.declared.lack.Lack.TheVariants.{Nothing, One, More}
use Rattle.cls_check.specs.Checking.{IsPartOf}

-- each number of each set is below the count
abbrev pub AllBelow : ℕ → List (List ℕ) → Type 0
AllBelow count sets = All (AreBelow count) sets

abbrev pub flag : List Bool → ℕ → Bool
flag flags i = slice_index_or flags i false

-- the flags of these numbers are set, and no others
abbrev pub AreFlagged : List ℕ → List Bool → Type 0
AreFlagged s flags = (i : ℕ) → IsTrue (flag flags i) ↔ Contains s i

-- the flags of these numbers are set, but for i
abbrev pub AreSetButFor : List Bool → List ℕ → ℕ → Type 0
AreSetButFor flags t i = (j : ℕ) → Contains t j → IsTrue (flag flags j) ⊎ (j ≡ i)

abbrev pub IsLack : List Bool → List ℕ → Lack → Type 0
IsLack flags t Nothing = (j : ℕ) → Contains t j → IsTrue (flag flags j)
IsLack flags t (One i) = (IsTrue (flag flags i) → ⊥) × Contains t i × AreSetButFor flags t i
IsLack flags t More = (i : ℕ) → AreSetButFor flags t i → ⊥

-- with each number of the family the set contains a set of the layer
abbrev pub AllMet : List ℕ → List (List ℕ) → List ℕ → Type 0
AllMet family layer s = (i : ℕ) → Contains family i → (t : List ℕ) × Contains layer t × IsPartOf t (i ∷ s)
