-- Terms in their codes: with which terms' codes numbers begin.
use Rattle.std.specs.Prelude.{ℕ, ◌≡◌, List, [], ◌∷◌, ◌++◌, length, take, drop}
use Rattle.cls_base.specs.Terms.{Applicative, component, code_of}
use Rattle.cls_base.specs.Spines.{spine, codes_of}
use Rattle.cls_term.specs.Banks.{at}

abbrev pub BeginsWithTerm : List ℕ → Type 0
BeginsWithTerm code = (e : Applicative) × (rest : List ℕ) × (code ≡ code_of e ++ rest)

abbrev pub BeginsWithTerms : ℕ → List ℕ → Type 0
BeginsWithTerms count code =
    (es : List Applicative) × (rest : List ℕ) × (length es ≡ count) × (code ≡ codes_of es ++ rest)

-- the rest stands behind the codes of so many terms
abbrev pub ArePassed : ℕ → List ℕ → List ℕ → Type 0
ArePassed count code rest = (es : List Applicative) × (length es ≡ count) × (code ≡ codes_of es ++ rest)

-- the terms whose codes the numbers are, read from the last to the first: a component takes as many of the terms behind
-- it as its number of arguments says
abbrev pub decoded : List ℕ → List Applicative
decoded [] = []
decoded (x ∷ []) = []
decoded (x ∷ count ∷ rest) = spine (component x) (take count (decoded rest)) ∷ drop count (decoded rest)

-- the term whose code the numbers are
abbrev pub term_in : List ℕ → Applicative
term_in code = at (decoded code) 0
