-- Words on lists over membership as a data family, over which proofs go by cases. What is public is said with std's `Contains`
-- wherever no list is made of it.
use Rattle.std.specs.Prelude.{ℕ, ◌<◌, List, [], ◌∷◌}

pub data Member {A : Type 0} : List A → A → Type 0 where
  first : {x : A} {xs : List A} → Member (x ∷ xs) x
  later : {x y : A} {xs : List A} → Member xs x → Member (y ∷ xs) x

-- each is in the relation to all later ones
abbrev pub Rises : {A : Type 0} → (A → A → Type 0) → List A → Type 0
Rises R [] = Unit {0}
Rises {A} R (x ∷ xs) = ((y : A) → Member xs y → R x y) × Rises R xs

abbrev pub Ascending : List ℕ → Type 0
Ascending s = Rises (λ x y. x < y) s

-- no two of the list are the same
abbrev pub Differ : {A : Type 0} → List A → Type 0
Differ [] = Unit {0}
Differ (x ∷ xs) = (Member xs x → ⊥) × Differ xs
