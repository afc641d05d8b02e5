-- Columns in which one place is replaced.
use Rattle.std.proofs.Common.{◌≡◌, ◌≢◌, ℕ, zero, suc, ◌<◌, List, [], length, map, get_or, refl, sym, ap, subst, inl, inr, ◌∙◌, arith}
use Rattle.std.specs.Prelude.{◌⊎◌, slice_index_or, slice_set, Result, Ok, Err, OnOk}
use Rattle.std.proofs.lemmas.List.{get_or-map, length-map, map-set, get_or-set_same, get_or-set_other}

-- what follows from a fact for Ok
pub on_ok : {T E P Q : Type 0} (r : Result T E) → (P → Q) → OnOk r P → OnOk r Q
on_ok (Ok x) f h = f h
on_ok (Err e) f h = tt

-- numbers are the same or differ
pub same_or_not : (n m : ℕ) → (n ≡ m) ⊎ (n ≢ m)
same_or_not zero zero = inl refl
same_or_not zero (suc m) = inr (λ p. omega (arith, p))
same_or_not (suc n) zero = inr (λ p. omega (arith, p))
same_or_not (suc n) (suc m) = elim (same_or_not n m) [ inl p ↦ inl (ap suc p) | inr d ↦ inr (λ p. d (omega (arith, p))) ]

module _ {X B : Type 0} (f : X → List B) where
  -- the column at its place
  column-at : (xs : List X) (n : ℕ) (x : X) → n < length xs → x ≡ get_or xs n x → f x ≡ slice_index_or (map f xs) n []
  column-at xs n x l p = ap f p ∙ sym (get_or-map f xs n x [] l)

  -- the column of a node, once it was replaced
  pub column-same : (xs : List X) (n : ℕ) (x : X) → n < length xs → slice_index_or (map f (slice_set xs n x)) n [] ≡ f x
  column-same xs n x l = ap (λ (ys : List (List B)). slice_index_or ys n []) (map-set f xs n x) ∙ get_or-set_same (map f xs) n (f x) [] (omega (arith, l, length-map xs f))

  -- that of another node
  pub column-other : (xs : List X) (n m : ℕ) (x : X) → m ≢ n → slice_index_or (map f (slice_set xs n x)) m [] ≡ slice_index_or (map f xs) m []
  column-other xs n m x d = ap (λ (ys : List (List B)). slice_index_or ys m []) (map-set f xs n x) ∙ get_or-set_other (map f xs) n m (f x) [] d

  -- what is read of all columns, once that of node n is another, which differs from it at `slack` alone
  pub columns-other : (xs : List X) (n slack : ℕ) (x y : X) (d : B) → n < length xs → x ≡ get_or xs n x
      → ((s : ℕ) → s ≢ slack → slice_index_or (f y) s d ≡ slice_index_or (f x) s d)
      → (m s : ℕ) → ((m ≡ n) × (s ≡ slack) → ⊥) → slice_index_or (slice_index_or (map f (slice_set xs n y)) m []) s d ≡ slice_index_or (slice_index_or (map f xs) m []) s d
  columns-other xs n slack x y d l p h m s other = elim (same_or_not m n) [
    | inl e ↦ (
        let P : ℕ → Type 0 = λ k. slice_index_or (slice_index_or (map f (slice_set xs n y)) k []) s d ≡ slice_index_or (slice_index_or (map f xs) k []) s d in
        subst P (sym e)
        (ap (λ (ys : List B). slice_index_or ys s d) (column-same xs n y l) ∙ h s (λ q. other (e, q))
        ∙ ap (λ (ys : List B). slice_index_or ys s d) (column-at xs n x l p)))
    | inr e ↦ ap (λ (ys : List B). slice_index_or ys s d) (column-other xs n m y e)
  ]
