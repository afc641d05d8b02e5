-- Terms that are printed and read again.
use Rattle.std.specs.Prelude.{ℕ, ◌≡◌, ◌<◌, false, List, length}
use Rattle.std.specs.List.{list_any, IsDistinct}
use Rattle.std.specs.Str.{bytes_eq}
use Rattle.cls_base.specs.Terms.{Applicative, component, apply}
use Rattle.cls_lexer.specs.Names.{number_of}
use Rattle.cls_lexer.specs.Words.{words_of}
use Rattle.cls_syntax.specs.TermTexts.{TermText}
use Rattle.cls_syntax.specs.SyntaxFaults.{IsFlat}
use Rattle.cls_syntax.specs.RoundTrips.{IsProperName}
use Rattle.cls_term.specs.Components.{greatest_of}
use Rattle.cls_term.specs.Texts.{name_at, text_of}
use Rattle.cls_term.specs.TermReadings.{term_of}
use Rattle.cls_term.specs.TokenFaults.{IsWholeTerm, is_unknown}

-- Each component of the term has a name that isn't reserved.
abbrev pub HasProperComponents : (ℕ → List ℕ) → Applicative → Type 0
HasProperComponents name (component x) = IsProperName (name x)
HasProperComponents name (apply f a) = HasProperComponents name f × HasProperComponents name a

-- The text of the term spells the term and no other, and its names are known.
pub record IsReadBack (names : List (List ℕ)) (e : Applicative) : Type 0 where
  pub text : TermText
  pub whole : IsWholeTerm (text_of (name_at names) e) text
  pub only : (other : TermText) → IsWholeTerm (text_of (name_at names) e) other → other ≡ text
  pub means : term_of (number_of names) text ≡ e
  pub known : list_any (is_unknown names) (words_of (text_of (name_at names) e)) ≡ false

-- What is printed is read as the term that it was, if no more parentheses are open at once than the limit.
abbrev pub PrintedTermsAreRead : Type 0
PrintedTermsAreRead =
    (names : List (List ℕ)) (e : Applicative) → IsDistinct bytes_eq names → greatest_of e < length names
    → HasProperComponents (name_at names) e → IsFlat (text_of (name_at names) e) → IsReadBack names e
