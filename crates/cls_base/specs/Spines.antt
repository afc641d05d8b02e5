-- Terms as spines: each term is a component applied to arguments in exactly one way.
use Rattle.std.specs.Prelude.{ℕ, ◌+◌, List, [], ◌∷◌, ◌++◌}
use Rattle.cls_base.specs.Terms.{Applicative, apply, length_of, size_of, code_of}

-- the term applied to each argument in turn
abbrev pub spine : Applicative → List Applicative → Applicative
spine f [] = f
spine f (a ∷ rest) = spine (apply f a) rest

abbrev pub lengths_of : List Applicative → ℕ
lengths_of [] = 0
lengths_of (e ∷ es) = length_of e + lengths_of es

abbrev pub sizes_of : (ℕ → ℕ) → List Applicative → ℕ
sizes_of cost [] = 0
sizes_of cost (e ∷ es) = size_of cost e + sizes_of cost es

abbrev pub codes_of : List Applicative → List ℕ
codes_of [] = []
codes_of (e ∷ es) = code_of e ++ codes_of es
