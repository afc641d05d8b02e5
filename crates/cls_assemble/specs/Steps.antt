-- internal: how far a text is read
use Rattle.std.specs.Prelude.{ℕ, List, take}
use Rattle.std.specs.Str.{IsCharBoundary}
use Rattle.cls_assemble.specs.declared.piece.Piece.{Piece}
use Rattle.cls_assemble.specs.Spelling.{IsTemplate}

-- The text in front of the byte is a template with these pieces, and no character is split there.
pub record IsReadUpTo (text : List ℕ) (pieces : List Piece) (at : ℕ) : Type 0 where
  pub template : IsTemplate (take at text) pieces
  pub boundary : IsCharBoundary text at
