-- internal: the pieces of a template, from the fields of its struct
use Rattle.std.specs.Prelude.{ℕ, List, [], ◌∷◌, ◌++◌, map, string_bytes}
use Rattle.cls_assemble.specs.declared.piece.Piece.{Piece}
use Rattle.cls_assemble.specs.declared.piece.Piece.TheVariants.{Byte, Hole}
use Rattle.cls_assemble.specs.declared.template.Segment.{Segment}

abbrev pub pieces_in : List Segment → List ℕ → List Piece
pieces_in [] tail = map Byte tail
pieces_in (s ∷ ss) tail = map Byte (string_bytes s.text) ++ Hole s.number ∷ pieces_in ss tail
