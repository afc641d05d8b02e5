-- How a token of each kind is spelled, and what it means that the tokens of a line are the longest.
use Rattle.std.specs.Prelude.{ℕ, ◌≡◌, ◌<◌, ◌≤◌, Bool, true, false, ◌||◌, ◌&&◌, ◌==◌, nat_le, nat_lt, List, [], ◌∷◌, ◌++◌, length, drop, take, count_by, slice_index, if◌then◌else◌, IsUtf8}
use Rattle.std.specs.List.{list_all, AllByRecursion}
use Rattle.cls_base.specs.Limits.{max_name_bytes}
use Rattle.cls_lexer.specs.declared.token.TokenKind.{TokenKind}
use Rattle.cls_lexer.specs.declared.token.TokenKind.TheVariants.{Name, Number, To, And, Times, Open, Close, Comma, Dollar, Colon, Equals, Bar, AtMost, Bad}
use Rattle.cls_lexer.specs.Tokens.{Located, tokens_of, end_of, IsCut}
use Rattle.cls_lexer.specs.Characters.{is_digit, is_name_start, is_name_byte, is_continuation, is_blank}

-- The signs of one byte: `&` `*` `(` `)` `,` `$` `:` `=` `|`.
abbrev pub is_sign : ℕ → Bool
is_sign b = b == 38 || b == 42 || b == 40 || b == 41 || b == 44 || b == 36 || b == 58 || b == 61 || b == 124

-- A token of this kind may have these bytes.
pub data Spells : TokenKind → List ℕ → Type 0 where
  name :
      {b : ℕ} {bs : List ℕ} → is_name_start b ≡ true → list_all is_name_byte bs ≡ true
      → length (b ∷ bs) ≤ max_name_bytes → Spells Name (b ∷ bs)
  number : {b : ℕ} {bs : List ℕ} → is_digit b ≡ true → list_all is_digit bs ≡ true → Spells Number (b ∷ bs)
  to : Spells To (45 ∷ 62 ∷ [])
  at_most : Spells AtMost (60 ∷ 61 ∷ [])
  and : Spells And (38 ∷ [])
  times : Spells Times (42 ∷ [])
  opens : Spells Open (40 ∷ [])
  closes : Spells Close (41 ∷ [])
  comma : Spells Comma (44 ∷ [])
  dollar : Spells Dollar (36 ∷ [])
  colon : Spells Colon (58 ∷ [])
  equals : Spells Equals (61 ∷ [])
  bar : Spells Bar (124 ∷ [])
  -- a run of name characters that is too long for a name
  too_long :
      {b : ℕ} {bs : List ℕ} → is_name_start b ≡ true → list_all is_name_byte bs ≡ true
      → max_name_bytes < length (b ∷ bs) → Spells Bad (b ∷ bs)
  -- any other single character: a byte and its continuation bytes
  other :
      {b : ℕ} {bs : List ℕ} → is_name_start b ≡ false → is_digit b ≡ false → is_sign b ≡ false → is_blank b ≡ false
      → list_all is_continuation bs ≡ true → Spells Bad (b ∷ bs)

-- The front is spelled by the kind, and no longer front of the same bytes is spelled by any kind.
pub record IsLongest (kind : TokenKind) (front rest : List ℕ) : Type 0 where
  pub spelled : Spells kind front
  pub longest :
      (kind' : TokenKind) (front' rest' : List ℕ) → front' ++ rest' ≡ front ++ rest → Spells kind' front'
      → length front' ≤ length front

-- The token's bytes stand in the line at its place, and it is the longest token that begins there.
pub record IsLongestAt (line : List ℕ) (token : Located) : Type 0 where
  pub not_empty : 0 < length token.text
  pub within : end_of token ≤ length line
  pub stands : token.text ≡ take (length token.text) (drop token.start line)
  pub is : IsLongest token.kind token.text (drop (end_of token) line)

-- The byte at the place is one of the token's.
abbrev pub holds_place : ℕ → Located → Bool
holds_place place token = nat_le token.start place && nat_lt place (end_of token)

-- Each token begins no earlier than the one before ends.
abbrev pub IsAscending : ℕ → List Located → Type 0
IsAscending least [] = Unit {0}
IsAscending least (token ∷ tokens) = (least ≤ token.start) × IsAscending (end_of token) tokens

-- No bytes are spelled by two kinds.
abbrev pub SpelledOnce : Type 0
SpelledOnce = (kind kind' : TokenKind) (text : List ℕ) → Spells kind text → Spells kind' text → kind ≡ kind'

-- Each token of a line is the longest that begins there.
abbrev pub TokensAreLongest : Type 0
TokensAreLongest = (line : List ℕ) → AllByRecursion (IsLongestAt line) (tokens_of line)

-- The tokens of a line follow one another.
abbrev pub TokensAscend : Type 0
TokensAscend = (line : List ℕ) → IsAscending 0 (tokens_of line)

-- Each byte that isn't blank lies in one token, and no byte lies in two. A blank lies in none.
abbrev pub TokensCover : Type 0
TokensCover =
    (line : List ℕ) (place : ℕ) → place < length line
    → count_by (holds_place place) (tokens_of line) ≡ (if is_blank (slice_index line place) then 0 else 1)

-- The tokens of a text split no character.
abbrev pub TokensAreCut : Type 0
TokensAreCut = (line : List ℕ) → IsUtf8 line → AllByRecursion (IsCut line) (tokens_of line)
