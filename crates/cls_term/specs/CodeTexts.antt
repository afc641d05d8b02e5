-- internal: the text of a term, as it is written from the left while the code is read.
use Rattle.std.specs.Prelude.{ℕ, ◌≡◌, codes, if◌then◌else◌, List, [], ◌++◌, nat_eq}
use Rattle.cls_base.specs.Terms.{Applicative, component, apply, code_of}
use Rattle.cls_term.specs.Texts.{text_of, open_text}

-- the text of a term that may be applied to more arguments, without the parenthesis that closes it
abbrev pub stem_text : (ℕ → List ℕ) → Applicative → List ℕ
stem_text name (component x) = name x
stem_text name (apply f a) = open_text name f ++ text_of name a

-- what stands before the argument at this place
abbrev pub mark_before : ℕ → List ℕ
mark_before place = if nat_eq place 0 then codes "(" else codes ", "

-- what stands behind so many arguments
abbrev pub mark_behind : ℕ → List ℕ
mark_behind count = if nat_eq count 0 then [] else codes ")"

-- the numbers began with the code of a term, whose text was written at the end
pub record IsWritten (name : ℕ → List ℕ) (code rest old new : List ℕ) : Type 0 where
  pub term : Applicative
  pub begins : code ≡ code_of term ++ rest
  pub text : new ≡ old ++ text_of name term
