-- The laws of the words on lists.
use Rattle.std.proofs.Common.{◌≡◌, ℕ, zero, suc, ◌+◌, ◌<◌, ◌≤◌, List, [], ◌∷◌, ◌++◌, Some, length, map, take, drop, get_or, slice_get, refl, sym, ap, add-one, ◌∙◌, subst, inl, inr, arith, append_assoc, take-append-drop}
use Rattle.std.specs.Prelude.{Contains, ◌⊎◌, ◌==◌, true, false}
use Rattle.std.specs.List.{sum_by, flat_map, IsDistinct, AllByRecursion}
use Rattle.std.specs.Coded.{×_prop, Unit-prop, le_prop}
use Rattle.std.proofs.Math.Seq.{take-suc}
use Rattle.std.proofs.lemmas.Bool.Decides.{nat_tests}
use Rattle.std.proofs.lemmas.List.{drop-append-le}
use Rattle.std.proofs.lemmas.List.Elements.{Contains-push, Contains-push_cases, Contains-append_left, Contains-append_right, Contains-append_cases}
use Rattle.std.proofs.lemmas.List.Sums.{sum_by-cons}
use Rattle.std.proofs.lemmas.Option.{slice_get_within, get_or_from_slice_get, slice_get-get_or}
use Rattle.cls_base.specs.Lists.{AreDistinct, AreBelow}

-- to replace the first n items of a front is to replace them in the whole list
pub front_replaced : (whole new : List ℕ) (n m : ℕ) → n ≤ length (take m whole) → (new ++ drop n (take m whole)) ++ drop m whole ≡ new ++ drop n whole
front_replaced whole new n m h =
    append_assoc new (drop n (take m whole)) (drop m whole) ∙ ap (λ l. new ++ l) (sym (drop-append-le n (take m whole) (drop m whole) h) ∙ ap (drop n) (take-append-drop m whole))

-- the first n items and the next one
pub take_next : {A : Type 0} (xs : List A) (n : ℕ) (d : A) → n < length xs → take (n + 1) xs ≡ take n xs ++ get_or xs n d ∷ []
take_next xs n d l = rw add-one (take-suc xs n d l)

pub take_whole : {A : Type 0} (xs : List A) (n : ℕ) → length xs ≤ n → take n xs ≡ xs
take_whole [] zero l = refl
take_whole [] (suc n) l = refl
take_whole (x ∷ xs) zero l = absurd (let k : suc (length xs) ≤ 0 = l in omega arith)
take_whole (x ∷ xs) (suc n) l = ap (λ ys. x ∷ ys) (take_whole xs n (let k : suc (length xs) ≤ suc n = l in omega arith))

pub map_last : {A B : Type 0} (f : A → B) (xs : List A) (x : A) → map f (xs ++ x ∷ []) ≡ map f xs ++ f x ∷ []
map_last f [] x = refl
map_last f (y ∷ xs) x = ap (λ l. f y ∷ l) (map_last f xs x)

module _ {A : Type 0} where
  pub Contains-nil : (x : A) → Contains [] x → ⊥
  Contains-nil x c = let l = c.1 in absurd (omega arith)

  pub Contains-here : (x : A) (xs : List A) → Contains (x ∷ xs) x
  Contains-here x xs = (0, omega arith, refl)

  pub Contains-later : (x y : A) (xs : List A) → Contains xs x → Contains (y ∷ xs) x
  Contains-later x y xs c = (suc c.0, (let l = c.1 in omega arith), c.2)

  pub Contains-cases : (y : A) (xs : List A) (x : A) → Contains (y ∷ xs) x → (x ≡ y) ⊎ Contains xs x
  Contains-cases y xs x (zero, l, e) = inl (sym e)
  Contains-cases y xs x (suc k, l, e) = inr (k, omega arith, e)

  pub AreDistinct-push : (xs : List A) (x : A) → AreDistinct xs → (Contains xs x → ⊥) → AreDistinct (xs ++ x ∷ [])
  AreDistinct-push [] x d n = (Contains-nil x, tt)
  AreDistinct-push (y ∷ xs) x d n = (
    (λ c. elim (Contains-push_cases xs x y c) [ inl i ↦ d.0 i | inr p ↦ n (0, omega arith, sym p) ]),
    AreDistinct-push xs x d.1 (λ c. n (Contains-later x y xs c)),
  )

  pub AreDistinct-last : (xs : List A) (x : A) → AreDistinct (xs ++ x ∷ []) → Contains xs x → ⊥
  AreDistinct-last [] x d c = Contains-nil x c
  AreDistinct-last (y ∷ xs) x d c = elim (Contains-cases y xs x c) [
    | inl p ↦ d.0 (let P : A → Type 0 = λ z. Contains (xs ++ x ∷ []) z in subst P p (Contains-push xs x))
    | inr i ↦ AreDistinct-last xs x d.1 i
  ]

pub AreBelow-prop : (n : ℕ) (numbers : List ℕ) → IsProp (AreBelow n numbers)
AreBelow-prop n [] = Unit-prop
AreBelow-prop n (a ∷ numbers) = ×_prop le_prop (AreBelow-prop n numbers)

pub AreBelow-more : (n m : ℕ) (bs : List ℕ) → n ≤ m → AreBelow n bs → AreBelow m bs
AreBelow-more n m [] l h = tt
AreBelow-more n m (b ∷ bs) l h = (omega arith, AreBelow-more n m bs l h.1)

pub AreBelow-append : (n : ℕ) (xs ys : List ℕ) → AreBelow n xs → AreBelow n ys → AreBelow n (xs ++ ys)
AreBelow-append n [] ys h k = k
AreBelow-append n (x ∷ xs) ys h k = (h.0, AreBelow-append n xs ys h.1 k)

pub AreBelow-at : (n : ℕ) (bs : List ℕ) (i : ℕ) → AreBelow n bs → i < length bs → get_or bs i 0 < n
AreBelow-at n [] i h l = absurd (omega arith)
AreBelow-at n (b ∷ bs) zero h l = h.0
AreBelow-at n (b ∷ bs) (suc i) h l = AreBelow-at n bs i h.1 (omega arith)

module _ {A : Type 0} where
  pub Contains-head : (x y : A) (xs : List A) → x ≡ y → Contains (y ∷ xs) x
  Contains-head x y xs e = (0, omega arith, sym e)

  pub Contains-at : (xs : List A) (i : ℕ) (x : A) → slice_get xs i ≡ Some x → Contains xs x
  Contains-at xs i x e = (i, slice_get_within xs i x e, get_or_from_slice_get xs i x x e)

  pub Contains-place : (xs : List A) (x : A) → Contains xs x → (i : ℕ) × (slice_get xs i ≡ Some x)
  Contains-place xs x c = (c.0, slice_get-get_or xs c.0 x c.1 ∙ ap Some c.2)

  -- in a list without repetition each element has one place
  pub AreDistinct-one_place : (xs : List A) (i j : ℕ) (x : A) → AreDistinct xs → slice_get xs i ≡ Some x → slice_get xs j ≡ Some x → i ≡ j
  AreDistinct-one_place [] i j x d e f = cc
  AreDistinct-one_place (y ∷ xs) zero zero x d e f = refl
  AreDistinct-one_place (y ∷ xs) zero (suc j) x d e f = absurd (d.0 (subst (λ z. Contains xs z) (let s : x ≡ y = cc in s) (Contains-at xs j x f)))
  AreDistinct-one_place (y ∷ xs) (suc i) zero x d e f = absurd (d.0 (subst (λ z. Contains xs z) (let s : x ≡ y = cc in s) (Contains-at xs i x e)))
  AreDistinct-one_place (y ∷ xs) (suc i) (suc j) x d e f = ap suc (AreDistinct-one_place xs i j x d.1 e f)

  module _ (f : A → ℕ) where
    -- the list without one place of x
    without : (xs : List A) (x : A) → Contains xs x → (ys : List A) × (sum_by f xs ≡ f x + sum_by f ys) × ((y : A) → Contains xs y → (y ≡ x) ⊎ Contains ys y)
    without [] x h = absurd (Contains-nil x h)
    without (y ∷ xs) x h = elim (Contains-cases y xs x h) [
      | inl e ↦ (xs, subst (λ w. sum_by f (y ∷ xs) ≡ f w + sum_by f xs) (sym e) (sum_by-cons f y xs), λ z m. elim (Contains-cases y xs z m) [ inl a ↦ inl (a ∙ sym e) | inr b ↦ inr b ])
      | inr k ↦
          let r = without xs x k in (
            y ∷ r.0,
            omega (arith, sum_by-cons f y xs, sum_by-cons f y r.0, r.1),
            λ z m. elim (Contains-cases y xs z m) [ inl a ↦ inr (Contains-head z y r.0 a) | inr b ↦ elim (r.2 z b) [ inl s ↦ inl s | inr t ↦ inr (Contains-later z y r.0 t) ] ],
          )
    ]

    -- distinct elements that stand in a list sum up to no more than the list
    pub sum_by-within : (xs ys : List A) → AreDistinct xs → ((x : A) → Contains xs x → Contains ys x) → sum_by f xs ≤ sum_by f ys
    sum_by-within [] ys d h = omega arith
    sum_by-within (x ∷ xs) ys d h =
        let r = without ys x (h x (Contains-here x xs)) in
        let rest = sum_by-within xs r.0 d.1 (λ z m. elim (r.2 z (h z (Contains-later z x xs m))) [ inl s ↦ absurd (d.0 (subst (λ w. Contains xs w) s m)) | inr t ↦ t ]) in
        omega (arith, sum_by-cons f x xs, r.1)

  ones : (xs : List A) → sum_by (λ (x : A). 1) xs ≡ length xs
  ones [] = refl
  ones (x ∷ xs) = sum_by-cons (λ (x : A). 1) x xs ∙ (let h = ones xs in omega arith)

  -- distinct elements that stand in a list are no more than the list
  pub length-within : (xs ys : List A) → AreDistinct xs → ((x : A) → Contains xs x → Contains ys x) → length xs ≤ length ys
  length-within xs ys d h = omega (arith, sum_by-within (λ (x : A). 1) xs ys d h, ones xs, ones ys)

module _ {A B : Type 0} (f : A → B) where
  pub Contains-map : (xs : List A) (x : A) → Contains xs x → Contains (map f xs) (f x)
  Contains-map [] x h = absurd (Contains-nil x h)
  Contains-map (y ∷ xs) x h = elim (Contains-cases y xs x h) [
    | inl e ↦ Contains-head (f x) (f y) (map f xs) (ap f e)
    | inr k ↦ Contains-later (f x) (f y) (map f xs) (Contains-map xs x k)
  ]

  pub Contains-from_map : (xs : List A) (y : B) → Contains (map f xs) y → (x : A) × Contains xs x × (y ≡ f x)
  Contains-from_map [] y h = absurd (Contains-nil y h)
  Contains-from_map (z ∷ xs) y h = elim (Contains-cases (f z) (map f xs) y h) [
    | inl e ↦ (z, Contains-here z xs, e)
    | inr k ↦ (let r = Contains-from_map xs y k in (r.0, Contains-later r.0 z xs r.1, r.2))
  ]

  pub AreDistinct-from_map : (xs : List A) → AreDistinct (map f xs) → AreDistinct xs
  AreDistinct-from_map [] d = tt
  AreDistinct-from_map (x ∷ xs) d = (λ h. d.0 (Contains-map xs x h), AreDistinct-from_map xs d.1)

-- what std's word says of numbers
pub AreDistinct-from_IsDistinct : (numbers : List ℕ) → IsDistinct (λ a b. a == b) numbers → AreDistinct numbers
unfolding IsDistinct
AreDistinct-from_IsDistinct [] d = tt
AreDistinct-from_IsDistinct (a ∷ numbers) d = (apart numbers d.0, AreDistinct-from_IsDistinct numbers d.1)
  where
    apart : (numbers : List ℕ) → AllByRecursion (λ b. (a == b) ≡ false) numbers → Contains numbers a → ⊥
    apart [] all c = Contains-nil a c
    apart (b ∷ numbers) all c = elim (Contains-cases b numbers a c) [
      | inl e ↦ absurd (let same : (a == b) ≡ true = grind (arith, nat_tests) in let one : false ≡ true = sym all.0 ∙ same in cc)
      | inr there ↦ apart numbers all.1 there
    ]

module _ {A B : Type 0} (f : A → List B) where
  pub Contains-flat_map : (xs : List A) (x : A) (y : B) → Contains xs x → Contains (f x) y → Contains (flat_map f xs) y
  Contains-flat_map [] x y h k = absurd (Contains-nil x h)
  Contains-flat_map (z ∷ xs) x y h k = elim (Contains-cases z xs x h) [
    | inl e ↦ Contains-append_left (f z) (flat_map f xs) y (subst (λ w. Contains (f w) y) e k)
    | inr l ↦ Contains-append_right (f z) (flat_map f xs) y (Contains-flat_map xs x y l k)
  ]

  pub Contains-from_flat_map : (xs : List A) (y : B) → Contains (flat_map f xs) y → (x : A) × Contains xs x × Contains (f x) y
  Contains-from_flat_map [] y h = absurd (Contains-nil y h)
  Contains-from_flat_map (x ∷ xs) y h = elim (Contains-append_cases (f x) (flat_map f xs) y h) [
    | inl k ↦ (x, Contains-here x xs, k)
    | inr k ↦ (let r = Contains-from_flat_map xs y k in (r.0, Contains-later r.0 x xs r.1, r.2))
  ]
