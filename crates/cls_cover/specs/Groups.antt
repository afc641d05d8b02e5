-- internal: the positions of a family in groups of equal rows
use Rattle.std.specs.Prelude.{ℕ, ◌≡◌, ◌↔◌, List, [], ◌∷◌, ◌++◌, slice_index_or}
use Rattle.cls_cover.specs.Members.{Member, Differ}

-- the lists one after another
abbrev pub together : List (List ℕ) → List ℕ
together [] = []
together (g ∷ gs) = g ++ together gs

abbrev pub row_at : List (List ℕ) → ℕ → List ℕ
row_at rows x = slice_index_or rows x []

-- x has the row of the first number of the group
abbrev pub HasRowOf : List (List ℕ) → List ℕ → ℕ → Type 0
HasRowOf rows [] x = Unit {0}
HasRowOf rows (y ∷ group) x = row_at rows x ≡ row_at rows y

-- all numbers of the group have one row
abbrev pub IsAlike : List (List ℕ) → List ℕ → Type 0
IsAlike rows group = (x : ℕ) → Member group x → HasRowOf rows group x

-- the positions in groups
pub record AreRuns (rows : List (List ℕ)) (positions : List ℕ) (groups : List (List ℕ)) : Type 0 where
  pub whole : together groups ≡ positions
  pub alike : (group : List ℕ) → Member groups group → IsAlike rows group

-- each position of the family stands in one group
pub record AreGroups (rows : List (List ℕ)) (family : List ℕ) (groups : List (List ℕ)) : Type 0 where
  pub same : (x : ℕ) → Member (together groups) x ↔ Member family x
  pub differ : Differ (together groups)
  pub alike : (group : List ℕ) → Member groups group → IsAlike rows group
