-- The term that a text of the grammar of terms spells.
use Rattle.std.specs.Prelude.{ℕ, List, [], ◌∷◌}
use Rattle.cls_base.specs.Terms.{Applicative, component}
use Rattle.cls_base.specs.Spines.{spine}
use Rattle.cls_syntax.specs.TermTexts.{TermText, TermList, named, applied, last, more}

-- `number` gives the number of a component's name.
module _ (number : List ℕ → ℕ) where
  abbrev mutual
    pub term_of : TermText → Applicative
    term_of (named x) = component (number x)
    term_of (applied x es) = spine (component (number x)) (terms_of es)

    pub terms_of : TermList → List Applicative
    terms_of (last e) = term_of e ∷ []
    terms_of (more e es) = term_of e ∷ terms_of es
