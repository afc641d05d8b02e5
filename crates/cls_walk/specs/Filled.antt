-- internal: codes that begin as the forms of nodes say, their sizes, and the least sizes of nodes
use Rattle.std.specs.Prelude.{ℕ, ◌≡◌, ◌+◌, ◌≤◌, List, [], ◌∷◌, ◌++◌, length, slice_index, slice_index_or}
use Rattle.cls_enum.specs.Members.{IsIn}
use Rattle.cls_walk.specs.Counts.{HeadRule}
use Rattle.cls_walk.specs.Forms.{AreRising}

-- the forms of a node, where those of each node are given
abbrev pub forms_at : List (List HeadRule) → ℕ → List HeadRule
forms_at forms n = slice_index_or forms n []

-- the codes of a term of each node in turn, one after another: each code begins as a form of its node says
abbrev pub IsFilled : List (List HeadRule) → List ℕ → List ℕ → Type 0
IsFilled forms [] [] = Unit {0}
IsFilled forms [] (x ∷ w) = ⊥
IsFilled forms (n ∷ ns) [] = ⊥
IsFilled forms (n ∷ ns) (x ∷ []) = ⊥
IsFilled forms (n ∷ ns) (x ∷ k ∷ w) =
    (ms : List ℕ) × IsIn (forms_at forms n) (x, ms) × (length ms ≡ k) × IsFilled forms (ms ++ ns) w

-- the costs of the components in codes
abbrev pub code_size : (ℕ → ℕ) → List ℕ → ℕ
code_size cost [] = 0
code_size cost (x ∷ []) = 0
code_size cost (x ∷ k ∷ w) = cost x + code_size cost w

-- the least sizes of the nodes together
abbrev pub needs : List ℕ → List ℕ → ℕ
needs least [] = 0
needs least (n ∷ ns) = slice_index least n + needs least ns

-- what a form comes to
abbrev pub form_size : (ℕ → ℕ) → List ℕ → HeadRule → ℕ
form_size cost least h = cost h.0 + needs least h.1

-- no form of a node comes to less than the node's least size
abbrev pub AreLeast : List (List HeadRule) → (ℕ → ℕ) → List ℕ → Type 0
AreLeast forms cost least =
    (n : ℕ) (h : HeadRule) → IsIn (forms_at forms n) h → slice_index least n ≤ cost h.0 + needs least h.1

-- the forms of each node are in their order, and no two begin alike
abbrev pub EachRise : List (List HeadRule) → Type 0
EachRise forms = (n : ℕ) → AreRising (forms_at forms n)
