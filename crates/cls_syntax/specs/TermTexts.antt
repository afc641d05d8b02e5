-- The grammar of terms: one constructor a production, and the words that each text has.
use Rattle.std.specs.Prelude.{ℕ, List, [], ◌∷◌, ◌++◌}
use Rattle.cls_lexer.specs.declared.token.TokenKind.TheVariants.{Open, Close, Comma}
use Rattle.cls_lexer.specs.Words.{Word, name, sign}

mutual
  pub data TermText : Type 0 where
    named : (text : List ℕ) → TermText
    applied : (text : List ℕ) → TermList → TermText

  -- one term or more
  pub data TermList : Type 0 where
    last : TermText → TermList
    more : TermText → TermList → TermList

abbrev mutual
  pub term_words : TermText → List Word
  term_words (named x) = name x ∷ []
  term_words (applied x es) = name x ∷ sign Open ∷ (terms_words es ++ sign Close ∷ [])

  -- with a comma between two terms
  pub terms_words : TermList → List Word
  terms_words (last e) = term_words e
  terms_words (more e es) = term_words e ++ sign Comma ∷ terms_words es
