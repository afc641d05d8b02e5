-- The lines of a certificate.
use Rattle.std.specs.Prelude.{ℕ, ◌<◌, List, ◌∷◌, [], ◌++◌, codes, decimal}
use Rattle.std.specs.List.{flat_map, AllByRecursion}
use Rattle.cls_base.specs.Types.{ClosedType}
use Rattle.cls_syntax.specs.TypePrinting.{name_in, HasNamesBelow, printed}
use Rattle.cls_proof.specs.Certificates.{ProofRow, Block, Member, Certificate, inhabited, empty}

-- the numbers, each after a space
abbrev pub numbers_text : List ℕ → List ℕ
numbers_text ns = flat_map (λ n. codes " " ++ decimal n) ns

-- the text with a line feed
abbrev pub line : List ℕ → List ℕ
line text = text ++ 10 ∷ []

abbrev pub set_text : List ℕ → List ℕ
set_text s = line (codes "set" ++ numbers_text s)

abbrev pub layer_text : List (List ℕ) → List ℕ
layer_text sets = line (codes "layer") ++ flat_map set_text sets

-- the table of the names of components
module _ (components : List (List ℕ)) where
  -- the first line of a block
  abbrev pub block_line : ℕ → ℕ → List ℕ
  block_line component n = line (codes "block " ++ name_in components component ++ codes " " ++ decimal n)

  abbrev pub block_text : Block → List ℕ
  block_text b = block_line b.component b.n ++ flat_map layer_text b.layers

-- the first line of a member, by the table of the names of constructors
abbrev pub member_line : List (List ℕ) → ClosedType → List ℕ
member_line names goal = line (codes "member " ++ printed (name_in names) 0 goal)

-- the tables of the names of constructors and of components
module _ (names components : List (List ℕ)) where
  abbrev pub row_text : ProofRow → List ℕ
  row_text r =
      line (codes "row " ++ printed (name_in names) 0 r.goal
      ++ codes " by " ++ name_in components r.component ++ codes " " ++ decimal r.n ++ codes " :" ++ numbers_text r.cover)

  abbrev pub member_text : Member → List ℕ
  member_text m = member_line names m.goal ++ flat_map (block_text components) m.blocks

  abbrev pub certificate_text : Certificate → List ℕ
  certificate_text (inhabited rows) = line (codes "inhabited") ++ flat_map row_text rows ++ line (codes "qed")
  certificate_text (empty members) = line (codes "empty") ++ flat_map member_text members ++ line (codes "qed")

-- the component of a block has a number below this
abbrev pub IsBlockHeld : ℕ → Block → Type 0
IsBlockHeld components b = b.component < components

-- the names and components of a certificate have numbers below these
module _ (names components : ℕ) where
  pub record IsRowHeld (r : ProofRow) : Type 0 where
    pub goal : HasNamesBelow names r.goal
    pub component : r.component < components

  pub record IsMemberHeld (m : Member) : Type 0 where
    pub goal : HasNamesBelow names m.goal
    pub blocks : AllByRecursion (IsBlockHeld components) m.blocks

  abbrev pub IsHeld : Certificate → Type 0
  IsHeld (inhabited rows) = AllByRecursion IsRowHeld rows
  IsHeld (empty members) = AllByRecursion IsMemberHeld members
