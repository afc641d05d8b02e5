-- What a fault says of a text: it stands behind a template, and nothing that a template may have begins there.
use Rattle.std.specs.Prelude.{ℕ, ◌≡◌, ◌≢◌, ◌<◌, List, [], ◌++◌, length}
use Rattle.cls_base.specs.Limits.{max_hole}
use Rattle.cls_assemble.specs.declared.piece.Piece.{Piece}
use Rattle.cls_assemble.specs.declared.piece.Piece.TheVariants.{Hole}
use Rattle.cls_assemble.specs.declared.fault.TemplateFault.{TemplateFault}
use Rattle.cls_assemble.specs.declared.fault.TemplateFault.TheVariants.{BadHole, HoleZero, HoleOver16, OutOfMemory}
use Rattle.cls_assemble.specs.Spelling.{Spells, IsTemplate}

-- The first bytes of the text, so many, are a template, and the rest follows.
pub record BeginsTemplate (text : List ℕ) (bytes : ℕ) (rest : List ℕ) : Type 0 where
  pub front : List ℕ
  pub pieces : List Piece
  pub split : text ≡ front ++ rest
  pub place : length front ≡ bytes
  pub template : IsTemplate front pieces

-- A piece begins here, with these bytes.
pub record BeginsPiece (text : List ℕ) (piece : Piece) : Type 0 where
  pub front : List ℕ
  pub more : List ℕ
  pub split : text ≡ front ++ more
  pub spelled : Spells piece front

-- Behind a template the text goes on, and begins no piece.
pub record HasBadHole (text : List ℕ) (byte : ℕ) : Type 0 where
  pub rest : List ℕ
  pub begins : BeginsTemplate text byte rest
  pub goes_on : rest ≢ []
  pub no_piece : (piece : Piece) → BeginsPiece rest piece → ⊥

-- Behind a template stands a hole with this number.
pub record HasHole (text : List ℕ) (byte number : ℕ) : Type 0 where
  pub rest : List ℕ
  pub begins : BeginsTemplate text byte rest
  pub hole : BeginsPiece rest (Hole number)

-- The fault is the first of the text. Out of memory says nothing of the text.
abbrev pub IsFaultOf : List ℕ → TemplateFault → Type 0
IsFaultOf text (BadHole byte) = HasBadHole text byte
IsFaultOf text (HoleZero byte) = HasHole text byte 0
IsFaultOf text (HoleOver16 byte) = (number : ℕ) × (max_hole < number) × HasHole text byte number
IsFaultOf text OutOfMemory = Unit {0}
