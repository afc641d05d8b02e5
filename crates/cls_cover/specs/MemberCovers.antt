-- Minimal covers over membership as a data family. `specs/Covers.antt` has the definitions that are public.
use Rattle.std.specs.Prelude.{ℕ, ◌≡◌, ◌<◌, ◌↔◌, List, length}
use Rattle.cls_base.specs.Terms.{Precedes}
use Rattle.cls_cover.specs.Members.{Member, Rises, Ascending, Differ}
use Rattle.cls_cover.specs.Lists.{Sublist}

-- an ascending list that covers, of which no proper sublist does
pub record IsMinimalSet (Covers : List ℕ → Type 0) (s : List ℕ) : Type 0 where
  pub ascending : Ascending s
  pub covers : Covers s
  pub minimal : (t : List ℕ) → Sublist t s → Covers t → t ≡ s

-- all minimal ones, in lexicographic order
pub record AreMinimalSets (Covers : List ℕ → Type 0) (list : List (List ℕ)) : Type 0 where
  pub in_order : Rises Precedes list
  pub exactly : (s : List ℕ) → Member list s ↔ IsMinimalSet Covers s

-- there are more minimal ones than n
pub record HasMoreSets (Covers : List ℕ → Type 0) (n : ℕ) : Type 0 where
  pub list : List (List ℕ)
  pub differ : Differ list
  pub minimal : (s : List ℕ) → Member list s → IsMinimalSet Covers s
  pub more : n < length list

-- the two lists share a number
abbrev pub Shares : List ℕ → List ℕ → Type 0
Shares family s = (i : ℕ) × Member family i × Member s i

-- the list shares a number with each family
abbrev pub SharesEach : List (List ℕ) → List ℕ → Type 0
SharesEach families s = (family : List ℕ) → Member families family → Shares family s

abbrev pub AreCoverSets : List (List ℕ) → List (List ℕ) → Type 0
AreCoverSets families list = AreMinimalSets (SharesEach families) list

-- the families have more minimal covers than n
abbrev pub HaveMoreSets : List (List ℕ) → ℕ → Type 0
HaveMoreSets families n = HasMoreSets (SharesEach families) n
