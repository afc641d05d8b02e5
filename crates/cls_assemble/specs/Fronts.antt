-- internal: the piece that bytes begin with, as the code finds it
use Rattle.std.specs.Prelude.{ℕ, ◌+◌, Bool, false, ◌&&◌, ◌==◌, min, nat_lt, List, [], ◌∷◌, Option, None, Some, take, drop, if◌then◌else◌}
use Rattle.std.specs.List.{prefix_len}
use Rattle.cls_base.specs.Limits.{max_hole}
use Rattle.cls_lexer.specs.Characters.{is_digit}
use Rattle.cls_lexer.specs.Numerals.{number_value}
use Rattle.cls_assemble.specs.declared.piece.Piece.{Piece}
use Rattle.cls_assemble.specs.declared.piece.Piece.TheVariants.{Byte, Hole}

abbrev pub begins_with : ℕ → List ℕ → Bool
begins_with b [] = false
begins_with b (c ∷ cs) = c == b

-- how many digits the bytes begin with
abbrev pub digit_count : List ℕ → ℕ
digit_count bytes = prefix_len is_digit bytes

-- the bytes behind the brace of a hole: digits, at least one, and a closing brace
abbrev pub is_hole : List ℕ → Bool
is_hole bytes = nat_lt 0 (digit_count bytes) && begins_with 125 (drop (digit_count bytes) bytes)

abbrev pub after_opening : List ℕ → Option (Piece × ℕ)
after_opening bytes =
    if begins_with 123 bytes then Some (Byte 123, 2)
    else if is_hole bytes then Some (Hole (number_value (take (digit_count bytes) bytes)), digit_count bytes + 2)
    else None

abbrev pub after_closing : List ℕ → Option (Piece × ℕ)
after_closing bytes = if begins_with 125 bytes then Some (Byte 125, 2) else None

abbrev pub after_backslash : List ℕ → Option (Piece × ℕ)
after_backslash bytes =
    if begins_with 110 bytes then Some (Byte 10, 2)
    else if begins_with 92 bytes then Some (Byte 92, 2) else None

-- the first piece, and how many bytes spell it
abbrev pub first_piece : List ℕ → Option (Piece × ℕ)
first_piece [] = None
first_piece (b ∷ bytes) =
    if b == 123 then after_opening bytes
    else if b == 125 then after_closing bytes
    else if b == 92 then after_backslash bytes
    else Some (Byte b, 1)

-- numbers over the greatest of a hole count as the next one
abbrev pub capped : Piece → Piece
capped (Byte b) = Byte b
capped (Hole n) = Hole (min n (max_hole + 1))
