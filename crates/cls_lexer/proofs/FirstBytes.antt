-- The first byte of a line that isn't blank.
use Rattle.std.proofs.Common.{Some, slice_get, ◌≡◌, ◌≤◌, ℕ, suc, zero, ◌+◌, Bool, true, false, List, [], ◌∷◌, refl, ap, sym, ◌∙◌, map, take, arith}
use Rattle.std.specs.Prelude.{cond, not, if◌then◌else◌}
use Rattle.std.specs.Str.{bytes_eq}
use Rattle.cls_lexer.specs.declared.token.TokenKind.{TokenKind}
use Rattle.cls_lexer.specs.declared.token.TokenKind.TheVariants.{Name, Number, To, And, Times, Open, Close, Comma, Dollar, Colon, Equals, Bar, AtMost, Bad}
use Rattle.cls_lexer.specs.Characters.{is_blank}
use Rattle.cls_lexer.specs.Skipped.{first_byte}
use Rattle.cls_lexer.specs.Tokens.{Located, token_at, located_at, tokens_from, tokens_of}
use Rattle.cls_lexer.specs.Words.{Word, name, reserved_name, word_from, said, words_of}
use Rattle.cls_lexer.specs.Words as words
use Rattle.cls_lexer.proofs.TokenSteps.{token_at-within, tokens_from-blank, tokens_from-token}

front : (n b : ℕ) (bs : List ℕ) → 1 ≤ n → slice_get (take n (b ∷ bs)) 0 ≡ Some b
front zero b bs h = absurd (omega arith)
front (suc n) b bs h = refl

-- the first token begins with it
pub token_byte : (at : ℕ) (bs : List ℕ) (t : Located) (ts : List Located) → tokens_from at 0 bs ≡ t ∷ ts → slice_get t.text 0 ≡ first_byte bs
unfolding tokens_from
token_byte at [] t ts h = absurd cc
token_byte at (b ∷ bs) t ts h =
    elim (is_blank b) as (λ c. is_blank b ≡ c → slice_get t.text 0 ≡ cond (not c) (Some b) (first_byte bs)) [
      | true ↦ λ e. token_byte (at + 1) bs t ts (sym (tokens_from-blank b at bs e) ∙ h)
      | false ↦ λ e.
          let same : located_at at b bs ≡ t = let r = tokens_from-token b at bs e in cc in
          ap (λ (u : Located). slice_get u.text 0) (sym same) ∙ front (token_at b bs).1 b bs (token_at-within b bs).0
    ] refl

-- the text of a name
name_of : (c : Bool) (text x : List ℕ) → (if c then words.omega else name text) ≡ name x → text ≡ x
name_of true text x h = absurd cc
name_of false text x h = cc

name_text : (kind : TokenKind) (text x : List ℕ) → word_from kind text ≡ name x → text ≡ x
name_text Name text x h = name_of (bytes_eq text reserved_name) text x h
name_text Number text x h = absurd cc
name_text To text x h = absurd cc
name_text And text x h = absurd cc
name_text Times text x h = absurd cc
name_text Open text x h = absurd cc
name_text Close text x h = absurd cc
name_text Comma text x h = absurd cc
name_text Dollar text x h = absurd cc
name_text Colon text x h = absurd cc
name_text Equals text x h = absurd cc
name_text Bar text x h = absurd cc
name_text AtMost text x h = absurd cc
name_text Bad text x h = absurd cc

-- a line whose first word is a name begins with that name's first byte, if blanks are left out
by_tokens : (ts : List Located) (line x : List ℕ) (ws : List Word) → tokens_of line ≡ ts → map said ts ≡ name x ∷ ws → first_byte line ≡ slice_get x 0
by_tokens [] line x ws e h = absurd cc
by_tokens (t ∷ ts) line x ws e h = sym (token_byte 0 line t ts e) ∙ ap (λ (text : List ℕ). slice_get text 0) (name_text t.kind t.text x cc)

pub name_byte : (line x : List ℕ) (ws : List Word) → words_of line ≡ name x ∷ ws → first_byte line ≡ slice_get x 0
unfolding words_of
name_byte line x ws h = by_tokens (tokens_of line) line x ws refl h
