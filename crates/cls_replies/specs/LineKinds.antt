-- What a line is for a certificate and for the repository.
use Rattle.std.specs.Prelude.{ℕ, ◌≡◌, Bool, true, false, List, [], ◌∷◌, codes}
use Rattle.cls_lexer.specs.Skipped.{IsText, IsSkipped}
use Rattle.cls_lexer.specs.Words.{Word, words_of}
use Rattle.cls_syntax.specs.Fronts.{is_word}
use Rattle.cls_query.specs.Changes.{begins_change}
use Rattle.cls_query.specs.Readable.{begins_with}

-- The words are this name alone.
abbrev pub is_alone : List ℕ → List Word → Bool
is_alone x (w ∷ []) = is_word x w
is_alone x _ = false

-- The line opens a certificate, whatever else is wrong with it.
pub record Opens (line : List ℕ) : Type 0 where
  pub text : IsText line
  pub begins : begins_with (codes "verify") (words_of line) ≡ true

-- The line ends a certificate.
pub record IsQed (line : List ℕ) : Type 0 where
  pub text : IsText line
  pub alone : is_alone (codes "qed") (words_of line) ≡ true

-- The line changes the repository, whatever else is wrong with it.
pub record Changes (line : List ℕ) : Type 0 where
  pub text : IsText line
  pub begins : begins_change (words_of line) ≡ true

-- The line is a query by itself.
pub record IsSingle (line : List ℕ) : Type 0 where
  pub unskipped : IsSkipped line → ⊥
  pub closed : Opens line → ⊥
  pub unchanging : Changes line → ⊥
