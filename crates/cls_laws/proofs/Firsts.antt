-- The first element of a list that has a property.
use Rattle.std.proofs.Common.{ℕ, zero, suc, ◌≡◌, ◌<◌, sym, subst, inl, inr, List, [], ◌∷◌, Option, None, Some, slice_get, arith, refl, Contains}
use Rattle.cls_base.proofs.Lists.{Contains-place, Contains-cases}
use Rattle.cls_cover.specs.Lists.{Rises}
use Rattle.cls_cert.specs.Making.{IsFirst}
use Rattle.cls_laws.specs.Possible.{IsPossible}
use Rattle.cls_laws.proofs.Classical.{after, Least, least}

module _ {A : Type 0} (P : A → Type 0) (xs : List A) where
  abbrev HasAt : ℕ → Type 0
  HasAt j = (y : A) × (slice_get xs j ≡ Some y) × P y

  first_by : Least HasAt → (x : A) × IsFirst P xs x
  first_by m = (m.1.0, record { place = m.0; there = m.1.1; holds = m.1.2; none_before = λ j y l e p. m.2 j l (y, e, p) })

  pub first_exists : (x : A) → Contains xs x → P x → IsPossible ((y : A) × IsFirst P xs y)
  first_exists x c p = let at = Contains-place xs x c in after (least HasAt at.0 (x, at.1, p)) first_by

-- what comes before an element of a list in order stands before it
module _ {A : Type 0} (R : A → A → Type 0) (asymmetric : (a b : A) → R a b → R b a → ⊥) where
  abbrev StandsBefore : List A → ℕ → A → Type 0
  StandsBefore xs i y = (j : ℕ) × (j < i) × (slice_get xs j ≡ Some y)

  pub stands_before : (xs : List A) → Rises R xs → (i : ℕ) (x y : A) → slice_get xs i ≡ Some x → Contains xs y → R y x → StandsBefore xs i y
  stands_before [] r i x y e c p = absurd (let f : ◌≡◌ {A = Option A} None (Some x) = e in cc)
  stands_before (z ∷ xs) r zero x y e c p =
      let same : z ≡ x = cc in
      let q : R y z = subst (λ w. R y w) (sym same) p in
      elim (Contains-cases z xs y c) [
        | inl s ↦ absurd (let t : R z z = subst (λ w. R w z) s q in asymmetric z z t t)
        | inr k ↦ absurd (asymmetric z y (r.0 y k) q)
      ]
  stands_before (z ∷ xs) r (suc i) x y e c p = elim (Contains-cases z xs y c) [
    | inl s ↦ (zero, omega arith, (let t : z ≡ y = sym s in subst (λ w. slice_get (z ∷ xs) zero ≡ Some w) t refl))
    | inr k ↦ (let u = stands_before xs r.1 i x y e k p in let l = u.1 in (suc u.0, omega arith, u.2))
  ]
