-- When a text is a term over the components of a table, and otherwise why it isn't.
use Rattle.std.specs.Prelude.{ℕ, ◌≡◌, Bool, false, not, List, Some, position}
use Rattle.std.specs.List.{list_any}
use Rattle.std.specs.Str.{bytes_eq}
use Rattle.cls_lexer.specs.Words as word
use Rattle.cls_lexer.specs.Words.{Word, name, number, sign, words_of}
use Rattle.cls_syntax.specs.TermTexts.{TermText, term_words}
use Rattle.cls_lexer.specs.Tokens.{byte_at}
use Rattle.cls_syntax.specs.Faults.{Always}
use Rattle.cls_syntax.specs.SyntaxFaults.{IsTooDeep, IsFlat, LeavesAt}
use Rattle.cls_base.specs.Terms.{Applicative}
use Rattle.cls_lexer.specs.Names.{number_of}
use Rattle.cls_term.specs.TermReadings.{term_of}
use Rattle.cls_term.specs.declared.token_fault.TokenFault.{TokenFault}
use Rattle.cls_term.specs.declared.token_fault.TokenFault.TheVariants.{TooDeep, BadToken, UnknownComponent, OutOfMemory}

-- The line spells the term, and no more parentheses than the limit are open at once.
pub record IsWholeTerm (line : List ℕ) (e : TermText) : Type 0 where
  pub flat : IsFlat line
  pub spells : term_words e ≡ words_of line

-- The line spells the term, with the numbers that the table gives its components.
pub record IsTermIn (table : List (List ℕ)) (line : List ℕ) (term : Applicative) : Type 0 where
  pub text : TermText
  pub whole : IsWholeTerm line text
  pub is : term ≡ term_of (number_of table) text

-- The word is a name that isn't in the table.
abbrev pub is_unknown : List (List ℕ) → Word → Bool
is_unknown table word.omega = false
is_unknown table (name x) = not (list_any (bytes_eq x) table)
is_unknown table (number n) = false
is_unknown table (sign kind) = false

-- The line spells a term, and the byte is that of the first name that isn't in the table.
pub record HasUnknownAt (table : List (List ℕ)) (line : List ℕ) (byte : ℕ) : Type 0 where
  pub text : TermText
  pub whole : IsWholeTerm line text
  pub place : ℕ
  pub first : position (is_unknown table) (words_of line) ≡ Some place
  pub byte_is : byte ≡ byte_at line place

-- The line leaves the grammar of terms at the byte.
pub record IsBadAt (line : List ℕ) (byte : ℕ) : Type 0 where
  pub flat : IsFlat line
  pub reserved : Bool
  pub leaves : LeavesAt term_words Always line byte reserved

-- Why the line spells no term over the components of the table. Out of memory says nothing.
abbrev pub IsNoTerm : List (List ℕ) → List ℕ → TokenFault → Type 0
IsNoTerm table line TooDeep = IsTooDeep line
IsNoTerm table line (BadToken byte) = IsBadAt line byte
IsNoTerm table line (UnknownComponent byte) = HasUnknownAt table line byte
IsNoTerm table line OutOfMemory = Unit {0}
