-- Laws of words on lists.
use Rattle.std.proofs.Common.{ℕ, zero, suc, ◌≡◌, ◌+◌, ◌<◌, ◌≤◌, refl, sym, ◌∙◌, subst, ap, ◌⊎◌, inl, inr, true, false, IsTrue, List, [], ◌∷◌, ◌++◌, length, take, get_or, arith, rules, Contains, Option, Some, None}
use Rattle.std.specs.Prelude.{slice_get}
use Rattle.std.proofs.lemmas.Option.{slice_get_within}
use Rattle.cls_base.proofs.Lists.{Contains-nil, Contains-here, Contains-later, Contains-cases, Contains-at, take_next}
use Rattle.std.proofs.lemmas.List.{get_or_default}
use Rattle.std.proofs.lemmas.List.Elements.{Contains-push_cases}
use Rattle.cls_cover.specs.Lists.{Rises}

-- one more at the end, behind all others
pub rises_last : {A : Type 0} (R : A → A → Type 0) (xs : List A) (y : A) → Rises R xs → ((x : A) → Contains xs x → R x y) → Rises R (xs ++ y ∷ [])
rises_last R [] y r f = ((λ z m. absurd (Contains-nil z m)), tt)
rises_last {A} R (x ∷ xs) y r f = ((λ z m. by z (Contains-push_cases xs y z m)), rises_last R xs y r.1 (λ z m. f z (Contains-later z x xs m)))
  where
    by : (z : A) → Contains xs z ⊎ (y ≡ z) → R x z
    by z (inl m) = r.0 z m
    by z (inr e) = subst (λ (w : A). R x w) e (f x (Contains-here x xs))

pub got_within : {A : Type 0} (xs : List A) (k : ℕ) (d : A) → k < length xs → slice_get xs k ≡ Some (get_or xs k d)
got_within [] k d l = absurd (omega arith)
got_within (x ∷ xs) zero d l = refl
got_within (x ∷ xs) (suc k) d l = got_within xs k d (omega arith)

pub not_false : IsTrue false → ⊥
not_false t = search rules

pub is_true : IsTrue true
is_true = search rules

pub differs : false ≡ true → ⊥
differs e = cc

-- those that stand before an element of a rising list
pub rises_before : {A : Type 0} (R : A → A → Type 0) (xs : List A) (i : ℕ) (x : A) → Rises R xs → slice_get xs i ≡ Some x → (y : A) → Contains (take i xs) y → R y x
rises_before {A} R [] i x r e y m = absurd (let f : ◌≡◌ {A = Option A} None (Some x) = e in cc)
rises_before R (z ∷ xs) zero x r e y m = absurd (Contains-nil y m)
rises_before {A} R (z ∷ xs) (suc i) x r e y m = elim (Contains-cases z (take i xs) y m) [
  | inl s ↦ subst (λ (w : A). R w x) (sym s) (r.0 x (Contains-at xs i x e))
  | inr k ↦ rises_before R xs i x r.1 e y k
]

-- the element that a loop looks at
pub item : {A : Type 0} (xs : List A) (k : ℕ) (x : A) → x ≡ get_or xs k x → k < length xs → Contains xs x
item xs k x e l = (k, l, sym e)

pub got_list : {A : Type 0} (xs : List (List A)) (k : ℕ) (x : List A) → x ≡ get_or xs k [] → k < length xs → Contains xs x
got_list xs k x e l = item xs k x (e ∙ get_or_default xs k [] x l) l

pub got_list_item : {A : Type 0} (xs : List (List A)) (k : ℕ) (x : List A) → x ≡ get_or xs k [] → k < length xs → slice_get xs k ≡ Some x
got_list_item xs k x e l = got_within xs k [] l ∙ ap Some (sym e)

-- the front with the element that a loop looks at
pub take_one : {A : Type 0} (xs : List A) (k : ℕ) (x : A) → x ≡ get_or xs k x → k < length xs → take (k + 1) xs ≡ take k xs ++ x ∷ []
take_one xs k x e l = take_next xs k x l ∙ ap (λ y. take k xs ++ y ∷ []) (sym e)

-- what a loop has passed, with the element that it looks at
pub none_so_far : {A : Type 0} (P : A → Type 0) (xs : List A) (i : ℕ) (x : A) → slice_get xs i ≡ Some x → (P x → ⊥) → ((j : ℕ) (y : A) → j < i → slice_get xs j ≡ Some y → P y → ⊥) → (j : ℕ) (y : A) → j < i + 1 → slice_get xs j ≡ Some y → P y → ⊥
none_so_far {A} P xs i x e n f j y l g p = by (cases j i l)
  where
    cases : (j i : ℕ) → j < i + 1 → (j < i) ⊎ (j ≡ i)
    cases j i l = grind arith

    by : (j < i) ⊎ (j ≡ i) → ⊥
    by (inl k) = f j y k g p
    by (inr s) = n (subst P (let t : Some y ≡ Some x = sym g ∙ (ap (slice_get xs) s ∙ e) in let u : y ≡ x = cc in u) p)

-- a pair of ends of a loop
pub past_end : {A : Type 0} (xs : List A) (i j : ℕ) (y : A) → length xs ≤ i → slice_get xs j ≡ Some y → j < i
past_end xs i j y l e = let k : j < length xs = slice_get_within xs j y e in omega arith
