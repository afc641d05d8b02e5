-- What isn't impossible. Here each statement may be decided, and what holds for each element of a list holds for all.
use Rattle.std.proofs.Common.{ℕ, zero, suc, ◌≡◌, ◌<◌, ◌⊎◌, inl, inr, List, [], ◌∷◌, Option, None, Some, length, slice_get, refl, ap, subst, arith}
use Rattle.std.specs.List.{AllZip}
use Rattle.std.specs.Prelude.{Contains}
use Rattle.cls_base.specs.Firsts.{Cause, IsSilent, First, IsDecided}
use Rattle.cls_base.proofs.Lists.{Contains-here, Contains-later}
use Rattle.cls_core.proofs.Columns.{some-inside, lt-split}
use Rattle.cls_laws.specs.Possible.{IsPossible}

pub surely : {A : Type 0} → A → IsPossible A
surely a = λ no. no a

pub then : {A B : Type 0} → IsPossible A → (A → IsPossible B) → IsPossible B
then h f = λ no. h (λ a. f a no)

pub after : {A B : Type 0} → IsPossible A → (A → B) → IsPossible B
after h f = λ no. h (λ a. no (f a))

pub either_way : (A : Type 0) → IsPossible (A ⊎ (A → ⊥))
either_way A = λ no. no (inr (λ a. no (inl a)))

-- each element of a list has a partner
module _ {A B : Type 0} (R : A → B → Type 0) where
  pub partners : (xs : List A) → ((x : A) → Contains xs x → IsPossible ((y : B) × R x y)) → IsPossible ((ys : List B) × AllZip R xs ys)
  partners [] f = surely ([], tt)
  partners (x ∷ xs) f =
      then (f x (Contains-here x xs)) (λ y. after (partners xs (λ z m. f z (Contains-later z x xs m))) (λ ys. (y.0 ∷ ys.0, (y.1, ys.1))))

-- each number below n has a partner
module _ {B : Type 0} where
  abbrev pub Listed : (ℕ → B → Type 0) → ℕ → Type 0
  Listed R n = (ys : List B) × (length ys ≡ n) × ((i : ℕ) (y : B) → slice_get ys i ≡ Some y → R i y)

  one_more : (R : ℕ → B → Type 0) (y : B) (ys : List B) → R 0 y → ((i : ℕ) (z : B) → slice_get ys i ≡ Some z → R (suc i) z)
      → (i : ℕ) (z : B) → slice_get (y ∷ ys) i ≡ Some z → R i z
  one_more R y ys r f zero z e = subst (R 0) (some-inside y z e) r
  one_more R y ys r f (suc i) z e = f i z e

  none_listed : (R : ℕ → B → Type 0) (i : ℕ) (y : B) → slice_get [] i ≡ Some y → R i y
  none_listed R i y e = absurd (let f : ◌≡◌ {A = Option B} None (Some y) = e in cc)

  pub by_index : (R : ℕ → B → Type 0) (n : ℕ) → ((i : ℕ) → i < n → IsPossible ((y : B) × R i y)) → IsPossible (Listed R n)
  by_index R zero f = surely ([], refl, none_listed R)
  by_index R (suc n) f =
      then (f 0 (omega arith)) (λ y.
      after (by_index (λ i z. R (suc i) z) n (λ i l. f (suc i) (omega arith)))
      (λ ys. (y.0 ∷ ys.0, ap suc ys.1, one_more R y.0 ys.0 y.1 ys.2)))

-- of the numbers with a property there is a least one
module _ (P : ℕ → Type 0) where
  abbrev pub Least : Type 0
  Least = (m : ℕ) × P m × ((k : ℕ) → k < m → P k → ⊥)

  none_below : (Least → ⊥) → (n k : ℕ) → k < n → P k → ⊥
  none_below f zero k l p = absurd (omega arith)
  none_below f (suc n) k l p = elim (lt-split n k (omega arith)) [
    | inl less ↦ none_below f n k less p
    | inr same ↦ f (k, p, (λ j m q. none_below f n j (let e : k ≡ n = same in omega arith) q))
  ]

  pub least : (n : ℕ) → P n → IsPossible Least
  least n p = λ no. none_below no (suc n) n (omega arith) p

-- if none of the causes is said, each of them says nothing
pub silent_here : {T : Type 0} (says : Cause T) (causes : List (Cause T)) → IsSilent (First (says ∷ causes)) → IsSilent says
silent_here says causes f = λ t s. f t (inl s)

pub silent_later : {T : Type 0} (says : Cause T) (causes : List (Cause T)) → IsSilent (First (says ∷ causes)) → IsSilent (First causes)
silent_later says causes f = λ t k. f t (inr (silent_here says causes f, k))

-- the first of the causes is said, or none applies
module _ {T : Type 0} where
  decided-later : (says : Cause T) (causes : List (Cause T)) → IsSilent says → IsDecided (First causes) → IsDecided (First (says ∷ causes))
  decided-later says causes silent (inl found) = inl (found.0, inr (silent, found.1))
  decided-later says causes silent (inr none) = inr (λ t f. elim f [ inl s ↦ silent t s | inr k ↦ none t k.1 ])

  decided-by : (says : Cause T) (causes : List (Cause T)) → IsPossible (IsDecided (First causes)) → ((t : T) × says t) ⊎ (((t : T) × says t) → ⊥)
      → IsPossible (IsDecided (First (says ∷ causes)))
  decided-by says causes rest (inl found) = surely (inl (found.0, inl found.1))
  decided-by says causes rest (inr silent) = after rest (decided-later says causes (λ t s. silent (t, s)))

  pub first_decided : (causes : List (Cause T)) → IsPossible (IsDecided (First causes))
  first_decided [] = surely (inr (λ t f. f))
  first_decided (says ∷ causes) = then (either_way ((t : T) × says t)) (decided-by says causes (first_decided causes))
