-- How a template is spelled.
use Rattle.std.specs.Prelude.{ℕ, ◌≡◌, ◌≤◌, Bool, not, ◌&&◌, ◌==◌, List, [], ◌∷◌, ◌++◌, IsTrue}
use Rattle.std.specs.List.{AllByRecursion}
use Rattle.cls_base.specs.Limits.{max_hole}
use Rattle.cls_lexer.specs.Numerals.{is_numeral, number_value}
use Rattle.cls_assemble.specs.declared.piece.Piece.{Piece}
use Rattle.cls_assemble.specs.declared.piece.Piece.TheVariants.{Byte, Hole}

-- A byte that stands for itself: any but `{`, `}` and the backslash.
abbrev pub is_plain : ℕ → Bool
is_plain b = not (b == 123) && not (b == 125) && not (b == 92)

-- The bytes spell the piece: a byte for itself, `{{`, `}}`, `\n`, `\\`, and a hole with its number in braces. Leading
-- zeros are allowed, and any number.
pub data Spells : Piece → List ℕ → Type 0 where
  plain : {b : ℕ} → IsTrue (is_plain b) → Spells (Byte b) (b ∷ [])
  opening : Spells (Byte 123) (123 ∷ 123 ∷ [])
  closing : Spells (Byte 125) (125 ∷ 125 ∷ [])
  line_feed : Spells (Byte 10) (92 ∷ 110 ∷ [])
  backslash : Spells (Byte 92) (92 ∷ 92 ∷ [])
  hole : (digits : List ℕ) → IsTrue (is_numeral digits) → Spells (Hole (number_value digits)) (123 ∷ (digits ++ 125 ∷ []))

-- The text spells the pieces, one after another.
abbrev pub AreSpelled : List Piece → List ℕ → Type 0
AreSpelled [] text = text ≡ []
AreSpelled (p ∷ ps) text = (front : List ℕ) × (rest : List ℕ) × (text ≡ front ++ rest) × Spells p front × AreSpelled ps rest

-- Holes are numbered from 1 to 16.
abbrev pub IsNumbered : Piece → Type 0
IsNumbered (Byte b) = Unit {0}
IsNumbered (Hole n) = (1 ≤ n) × (n ≤ max_hole)

-- The text is a template, which has these pieces.
pub record IsTemplate (text : List ℕ) (pieces : List Piece) : Type 0 where
  pub spelled : AreSpelled pieces text
  pub numbered : AllByRecursion IsNumbered pieces
