-- How long a text is, by the lengths of the texts of the arguments.
use Rattle.std.specs.Prelude.{ℕ, ◌≡◌, ◌+◌, ◌-◌, min, List, [], ◌∷◌, length, map, drop, slice_index_or}
use Rattle.cls_base.specs.Limits.{max_text_bytes}
use Rattle.cls_assemble.specs.declared.piece.Piece.{Piece}
use Rattle.cls_assemble.specs.declared.piece.Piece.TheVariants.{Byte, Hole}
use Rattle.cls_assemble.specs.Texts.{greatest_hole, filled}

-- `_` has one byte
abbrev pub piece_length : List ℕ → Piece → ℕ
piece_length lengths (Byte b) = 1
piece_length lengths (Hole n) = slice_index_or lengths (n - 1) 1

abbrev pub pieces_length : List ℕ → List Piece → ℕ
pieces_length lengths [] = 0
pieces_length lengths (p ∷ ps) = piece_length lengths p + pieces_length lengths ps

-- the lengths of arguments, each with its parentheses
abbrev pub surplus_length : List ℕ → ℕ
surplus_length [] = 0
surplus_length (n ∷ ns) = n + 2 + surplus_length ns

abbrev pub filled_length : List Piece → List ℕ → ℕ
filled_length pieces lengths = pieces_length lengths pieces + surplus_length (drop (greatest_hole pieces) lengths)

-- The length of a filled template hangs on the lengths of the texts alone.
abbrev pub FilledLengths : Type 0
FilledLengths =
    (pieces : List Piece) (texts : List (List ℕ)) → length (filled pieces texts) ≡ filled_length pieces (map length texts)

-- the length, where all that are over the limit count as one more than it
abbrev pub capped_length : ℕ → ℕ
capped_length n = min n (max_text_bytes + 1)
