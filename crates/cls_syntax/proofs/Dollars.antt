-- Where the first `$` stands.
use Rattle.std.proofs.Common.{◌≡◌, ℕ, ◌+◌, ◌≤◌, Bool, true, false, cond, not, List, [], ◌∷◌, length, refl, arith}
use Rattle.std.specs.Prelude.{None, position, if◌then◌else◌, ◌||◌}
use Rattle.std.specs.List.{list_any, position_or_len}
use Rattle.std.specs.Str.{bytes_eq}
use Rattle.cls_lexer.specs.declared.token.Token.{Token}
use Rattle.cls_lexer.specs.declared.token.TokenKind.{TokenKind}
use Rattle.cls_lexer.specs.declared.token.TokenKind.TheVariants.{Name, Dollar}
use Rattle.cls_lexer.specs.Words as word
use Rattle.cls_lexer.specs.Words.{Word, name, word_from, word_of, reserved_name}
use Rattle.cls_lexer.specs.Words.{words}
use Rattle.cls_syntax.specs.TypeSchemas.{is_dollar}
use Rattle.cls_lexer.proofs.Positions.{position-none}
use Rattle.cls_lexer.proofs.TextTables.{position-map}

name_no_dollar : (b : Bool) (x : List ℕ) → is_dollar (if b then word.omega else name x) ≡ false
name_no_dollar true x = refl
name_no_dollar false x = refl

abbrev kind_dollar : TokenKind → Bool
kind_dollar Dollar = true
kind_dollar _ = false

pub dollar_kind : (kind : TokenKind) (x : List ℕ) → is_dollar (word_from kind x) ≡ kind_dollar kind
dollar_kind Name x = name_no_dollar (bytes_eq x reserved_name) x
dollar_kind _ x = refl

pub first_dollar : (ls : List Token) → position is_dollar (words ls) ≡ position (λ l. is_dollar (word_of l)) ls
first_dollar ls = position-map word_of is_dollar ls

none_any : (ws : List Word) → length ws ≤ position_or_len is_dollar ws → list_any is_dollar ws ≡ false
none_any [] h = refl
none_any (w ∷ ws) h =
    (elim (is_dollar w) as (λ b. length (w ∷ ws) ≤ cond (not b) (1 + position_or_len is_dollar ws) 0 → (b || list_any is_dollar ws) ≡ false) [
      | true ↦ λ k. absurd (omega arith)
      | false ↦ λ k. none_any ws (omega arith)
    ]) h

-- where none was found there is none
pub no_dollar : (ws : List Word) → position is_dollar ws ≡ None → list_any is_dollar ws ≡ false
no_dollar ws h = none_any ws (position-none is_dollar ws h)
