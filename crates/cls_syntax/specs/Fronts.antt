-- The front of a line's words, as line forms are read from the left.
use Rattle.std.specs.Prelude.{ℕ, ◌≡◌, ◌↔◌, ◌==◌, Bool, false, List, [], ◌∷◌, Option, Some, None, if◌then◌else◌}
use Rattle.std.specs.Str.{bytes_eq}
use Rattle.cls_lexer.specs.declared.token.TokenKind.{TokenKind}
use Rattle.cls_lexer.specs.declared.token.TokenKind.TheVariants.{Name, Number, To, And, Times, Open, Close, Comma, Dollar, Colon, Equals, Bar, AtMost, Bad}
use Rattle.cls_lexer.specs.Words.{Word, omega, name, number, sign}

-- The place of the kind in the list of kinds, by which two kinds are compared.
abbrev pub kind_place : TokenKind → ℕ
kind_place Name = 0
kind_place Number = 1
kind_place To = 2
kind_place And = 3
kind_place Times = 4
kind_place Open = 5
kind_place Close = 6
kind_place Comma = 7
kind_place Dollar = 8
kind_place Colon = 9
kind_place Equals = 10
kind_place Bar = 11
kind_place AtMost = 12
kind_place Bad = 13

-- The name that the words begin with, and what follows it. The reserved name is none.
abbrev pub first_name : List Word → Option (List ℕ × List Word)
first_name [] = None
first_name (omega ∷ ws) = None
first_name (name text ∷ ws) = Some (text, ws)
first_name (number digits ∷ ws) = None
first_name (sign kind ∷ ws) = None

-- The digits of the number that the words begin with, and what follows it.
abbrev pub first_number : List Word → Option (List ℕ × List Word)
first_number [] = None
first_number (omega ∷ ws) = None
first_number (name text ∷ ws) = None
first_number (number digits ∷ ws) = Some (digits, ws)
first_number (sign kind ∷ ws) = None

-- The word is this very name.
abbrev pub is_word : List ℕ → Word → Bool
is_word text omega = false
is_word text (name text') = bytes_eq text text'
is_word text (number digits) = false
is_word text (sign kind) = false

-- What follows this very name.
abbrev pub after_word : List ℕ → List Word → Option (List Word)
after_word text [] = None
after_word text (omega ∷ ws) = None
after_word text (name text' ∷ ws) = if bytes_eq text text' then Some ws else None
after_word text (number digits ∷ ws) = None
after_word text (sign kind ∷ ws) = None

-- What follows the sign of this kind.
abbrev pub after_sign : TokenKind → List Word → Option (List Word)
after_sign kind [] = None
after_sign kind (omega ∷ ws) = None
after_sign kind (name text ∷ ws) = None
after_sign kind (number digits ∷ ws) = None
after_sign kind (sign kind' ∷ ws) = if kind_place kind == kind_place kind' then Some ws else None

-- Each front gives a word, and what follows it, if and only if the words begin with that word.
pub record FrontsAreExact : Type 0 where
  pub names : (ws rest : List Word) (text : List ℕ) → (first_name ws ≡ Some (text, rest)) ↔ (ws ≡ name text ∷ rest)
  pub numbers : (ws rest : List Word) (digits : List ℕ) → (first_number ws ≡ Some (digits, rest)) ↔ (ws ≡ number digits ∷ rest)
  pub this_name : (ws rest : List Word) (text : List ℕ) → (after_word text ws ≡ Some rest) ↔ (ws ≡ name text ∷ rest)
  pub signs : (ws rest : List Word) (kind : TokenKind) → (after_sign kind ws ≡ Some rest) ↔ (ws ≡ sign kind ∷ rest)
