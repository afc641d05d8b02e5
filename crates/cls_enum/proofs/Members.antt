-- Membership by recursion on the list.
use Rattle.std.proofs.Common.{◌≡◌, ℕ, zero, suc, ◌<◌, ◌≤◌, List, [], ◌∷◌, ◌++◌, length, get_or, map, take, ap, refl, sym, inl, inr, arith, subst}
use Rattle.std.proofs.lemmas.Bool.{cases_lt}
use Rattle.std.specs.Prelude.{◌⊎◌, Contains}
use Rattle.std.specs.List.{flat_map}
use Rattle.cls_enum.specs.Candidates.{over}
use Rattle.cls_enum.specs.Members.{IsIn}

pub below_or_at : (t n : ℕ) → t < suc n → (t < n) ⊎ (t ≡ n)
below_or_at t n l = elim (cases_lt t n) [ inl b ↦ inl b | inr b ↦ inr (omega arith) ]

module _ {A : Type 0} where
  pub in_at : (xs : List A) (e : A) (k : ℕ) → k < length xs → get_or xs k e ≡ e → IsIn xs e
  in_at [] e k l p = absurd (omega arith)
  in_at (x ∷ xs) e zero l p = inl p
  in_at (x ∷ xs) e (suc k) l p = inr (in_at xs e k (omega arith) p)

  pub in_from : (xs : List A) (e : A) → Contains xs e → IsIn xs e
  in_from xs e c = in_at xs e c.0 c.1 c.2

  pub in_to : (xs : List A) (e : A) → IsIn xs e → Contains xs e
  in_to [] e h = absurd h
  in_to (x ∷ xs) e (inl p) = (0, omega arith, p)
  in_to (x ∷ xs) e (inr h) = let c = in_to xs e h in (suc c.0, omega (arith, c.1), c.2)

  pub in_left : (xs ys : List A) (e : A) → IsIn xs e → IsIn (xs ++ ys) e
  in_left [] ys e h = absurd h
  in_left (x ∷ xs) ys e (inl p) = inl p
  in_left (x ∷ xs) ys e (inr h) = inr (in_left xs ys e h)

  pub in_right : (xs ys : List A) (e : A) → IsIn ys e → IsIn (xs ++ ys) e
  in_right [] ys e h = h
  in_right (x ∷ xs) ys e h = inr (in_right xs ys e h)

  pub in_cases : (xs ys : List A) (e : A) → IsIn (xs ++ ys) e → IsIn xs e ⊎ IsIn ys e
  in_cases [] ys e h = inr h
  in_cases (x ∷ xs) ys e (inl p) = inl (inl p)
  in_cases (x ∷ xs) ys e (inr h) = elim (in_cases xs ys e h) [ inl i ↦ inl (inr i) | inr i ↦ inr i ]

  pub in_over : (n : ℕ) (f : ℕ → List A) (e : A) → IsIn (over n f) e → (t : ℕ) × (t < n) × IsIn (f t) e
  in_over zero f e h = absurd h
  in_over (suc n) f e h = elim (in_cases (over n f) (f n) e h) [
    | inl i ↦ let r = in_over n f e i in (r.0, omega arith, r.2)
    | inr i ↦ (n, omega arith, i)
  ]

  pub over_in : (n : ℕ) (f : ℕ → List A) (e : A) (t : ℕ) → t < n → IsIn (f t) e → IsIn (over n f) e
  over_in zero f e t l h = absurd (omega arith)
  over_in (suc n) f e t l h = elim (below_or_at t n l) [
    | inl b ↦ in_left (over n f) (f n) e (over_in n f e t b h)
    | inr p ↦ let P : ℕ → Type 0 = λ k. IsIn (f k) e in in_right (over n f) (f n) e (subst P p h)
  ]

  -- a list without members is empty
  pub none_in : (xs : List A) → ((e : A) → IsIn xs e → ⊥) → xs ≡ []
  none_in [] h = refl
  none_in (x ∷ xs) h = absurd (h x (inl refl))

module _ {A B : Type 0} (f : A → List B) where
  pub in_flat_map : (xs : List A) (e : B) → IsIn (flat_map f xs) e → (x : A) × IsIn xs x × IsIn (f x) e
  in_flat_map [] e h = absurd h
  in_flat_map (x ∷ xs) e h = elim (in_cases (f x) (flat_map f xs) e h) [
    | inl i ↦ (x, inl refl, i)
    | inr i ↦ let r = in_flat_map xs e i in (r.0, inr r.1, r.2)
  ]

  pub flat_map_in : (xs : List A) (e : B) (x : A) → IsIn xs x → IsIn (f x) e → IsIn (flat_map f xs) e
  flat_map_in [] e x h i = absurd h
  flat_map_in (y ∷ xs) e x (inl p) i = let P : A → Type 0 = λ z. IsIn (f z) e in in_left (f y) (flat_map f xs) e (subst P (sym p) i)
  flat_map_in (y ∷ xs) e x (inr h) i = in_right (f y) (flat_map f xs) e (flat_map_in xs e x h i)

module _ {A B : Type 0} (f : A → B) where
  pub in_map : (xs : List A) (e : B) → IsIn (map f xs) e → (x : A) × IsIn xs x × (f x ≡ e)
  in_map [] e h = absurd h
  in_map (x ∷ xs) e (inl p) = (x, inl refl, p)
  in_map (x ∷ xs) e (inr h) = let r = in_map xs e h in (r.0, inr r.1, r.2)

pub take-whole : {A : Type 0} (n : ℕ) (xs : List A) → length xs ≤ n → take n xs ≡ xs
take-whole zero [] l = refl
take-whole zero (x ∷ xs) l = absurd (omega arith)
take-whole (suc n) [] l = refl
take-whole (suc n) (x ∷ xs) l = ap (λ ys. x ∷ ys) (take-whole n xs (omega arith))

pub in-take : {A : Type 0} (n : ℕ) (e : A) (xs : List A) → IsIn (take n xs) e → IsIn xs e
in-take zero e xs i = absurd i
in-take (suc n) e [] i = absurd i
in-take (suc n) e (x ∷ xs) (inl p) = inl p
in-take (suc n) e (x ∷ xs) (inr i) = inr (in-take n e xs i)
