-- The tokens of a line.
use Rattle.std.specs.Prelude.{ℕ, ◌+◌, ◌-◌, suc, zero, Bool, false, ◌&&◌, ◌||◌, ◌==◌, nat_le, List, [], ◌∷◌, if◌then◌else◌, take, length, slice_get}
use Rattle.std.specs.List.{prefix_len}
use Rattle.std.specs.Option.{option_map_or}
use Rattle.std.specs.Str.{IsCharBoundary}
use Rattle.cls_base.specs.Limits.{max_name_bytes}
use Rattle.cls_lexer.specs.declared.token.TokenKind.{TokenKind}
use Rattle.cls_lexer.specs.declared.token.TokenKind.TheVariants.{Name, Number, To, And, Times, Open, Close, Comma, Dollar, Colon, Equals, Bar, AtMost, Bad}
use Rattle.cls_lexer.specs.declared.token.Token.{Token}
use Rattle.cls_lexer.specs.Characters.{is_digit, is_name_start, is_name_byte, is_continuation, is_blank}

-- The bytes begin with this one.
abbrev pub begins_with : ℕ → List ℕ → Bool
begins_with c [] = false
begins_with c (b ∷ bs) = b == c

-- The byte is a token by itself, whatever follows it: one of & * ( ) , $ : = |
abbrev pub is_sign : ℕ → Bool
is_sign b = b == 38 || b == 42 || b == 40 || b == 41 || b == 44 || b == 36 || b == 58 || b == 61 || b == 124

-- The sign that the bytes begin with, or any other single character.
abbrev pub sign_or_bad : ℕ → List ℕ → TokenKind × ℕ
sign_or_bad b bs =
    if b == 45 && begins_with 62 bs then (To, 2)
    else (if b == 60 && begins_with 61 bs then (AtMost, 2)
    else (if b == 38 then (And, 1)
    else (if b == 42 then (Times, 1)
    else (if b == 40 then (Open, 1)
    else (if b == 41 then (Close, 1)
    else (if b == 44 then (Comma, 1)
    else (if b == 36 then (Dollar, 1)
    else (if b == 58 then (Colon, 1)
    else (if b == 61 then (Equals, 1)
    else (if b == 124 then (Bar, 1)
    else (Bad, 1 + prefix_len is_continuation bs)))))))))))

-- The kind and the length of the token that the bytes begin with.
unfoldable pub token_at : ℕ → List ℕ → TokenKind × ℕ
token_at b bs =
    if is_name_start b then (
      (if nat_le (1 + prefix_len is_name_byte bs) max_name_bytes then Name else Bad),
      1 + prefix_len is_name_byte bs,
    )
    else (if is_digit b then (Number, 1 + prefix_len is_digit bs)
    else sign_or_bad b bs)

-- A token of a line: what it is, how many bytes of the line stand in front of it, and its own bytes.
pub record Located : Type 0 where
  pub kind : TokenKind
  pub start : ℕ
  pub text : List ℕ

-- How many bytes of the line stand in front of the token's end.
abbrev pub end_of : Located → ℕ
end_of token = token.start + length token.text

-- The token that the bytes begin with, where `at` bytes stand in front of them.
abbrev pub located_at : (at : ℕ) → ℕ → List ℕ → Located
located_at at b bs = record { kind = (token_at b bs).0; start = at; text = take (token_at b bs).1 (b ∷ bs) }

-- The tokens from the place `at` on, where the first `skip` bytes belong to the token before.
unfoldable pub tokens_from : (at skip : ℕ) → List ℕ → List Located
tokens_from at skip [] = []
tokens_from at (suc n) (b ∷ bs) = tokens_from (at + 1) n bs
tokens_from at zero (b ∷ bs) =
    if is_blank b then tokens_from (at + 1) 0 bs
    else located_at at b bs ∷ tokens_from (at + 1) ((token_at b bs).1 - 1) bs

-- From the left: a blank is skipped, otherwise the longest token is taken.
abbrev pub tokens_of : List ℕ → List Located
tokens_of line = tokens_from 0 0 line

-- What the code's token is.
abbrev pub located : Token → Located
located token = record { kind = token.kind; start = token.start; text = token.text.now }

-- The byte at which the token of this number begins, or the line's length if it has no such token.
abbrev pub byte_at : List ℕ → ℕ → ℕ
byte_at line place = option_map_or (λ t. t.start) (slice_get (tokens_of line) place) (length line)

-- The token splits no character.
abbrev pub IsCut : List ℕ → Located → Type 0
IsCut line token = IsCharBoundary line token.start × IsCharBoundary line (end_of token)
