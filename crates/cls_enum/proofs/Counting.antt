-- Counting: different elements of a list are no more than it has.
use Rattle.std.proofs.Common.{◌≡◌, suc, ◌≤◌, List, [], ◌∷◌, ◌++◌, length, refl, sym, ◌∙◌, subst, inl, inr, arith}
use Rattle.cls_base.specs.Lists.{AreDistinct}
use Rattle.cls_enum.specs.Members.{IsIn}
use Rattle.cls_enum.proofs.Members.{in_from, in_to, in_cases}

module _ {A : Type 0} where
  -- the list without the element at this place
  abbrev pub without : (ys : List A) (x : A) → IsIn ys x → List A
  without [] x i = absurd i
  without (y ∷ ys) x (inl p) = ys
  without (y ∷ ys) x (inr i) = y ∷ without ys x i

  length-without : (ys : List A) (x : A) (i : IsIn ys x) → length ys ≡ suc (length (without ys x i))
  length-without [] x i = absurd i
  length-without (y ∷ ys) x (inl p) = refl
  length-without (y ∷ ys) x (inr i) = omega (arith, length-without ys x i)

  still_in : (ys : List A) (x z : A) (i : IsIn ys x) → (x ≡ z → ⊥) → IsIn ys z → IsIn (without ys x i) z
  still_in [] x z i n j = absurd j
  still_in (y ∷ ys) x z (inl p) n (inl q) = absurd (n (sym p ∙ q))
  still_in (y ∷ ys) x z (inl p) n (inr j) = j
  still_in (y ∷ ys) x z (inr i) n (inl q) = inl q
  still_in (y ∷ ys) x z (inr i) n (inr j) = inr (still_in ys x z i n j)

  in_without : (ys : List A) (x z : A) (i : IsIn ys x) → IsIn (without ys x i) z → IsIn ys z
  in_without [] x z i j = absurd i
  in_without (y ∷ ys) x z (inl p) j = inr j
  in_without (y ∷ ys) x z (inr i) (inl q) = inl q
  in_without (y ∷ ys) x z (inr i) (inr j) = inr (in_without ys x z i j)

  once-without : (ys : List A) (x : A) (i : IsIn ys x) → AreDistinct ys → AreDistinct (without ys x i)
  once-without [] x i n = absurd i
  once-without (y ∷ ys) x (inl p) n = n.1
  once-without (y ∷ ys) x (inr i) n = ((λ c. n.0 (in_to ys y (in_without ys x y i (in_from (without ys x i) y c)))), once-without ys x i n.1)

  gone-without : (ys : List A) (x : A) (i : IsIn ys x) → AreDistinct ys → IsIn (without ys x i) x → ⊥
  gone-without [] x i n j = absurd i
  gone-without (y ∷ ys) x (inl p) n j = n.0 (in_to ys y (let P : A → Type 0 = λ w. IsIn ys w in subst P (sym p) j))
  gone-without (y ∷ ys) x (inr i) n (inl q) = n.0 (in_to ys y (let P : A → Type 0 = λ w. IsIn ys w in subst P (sym q) i))
  gone-without (y ∷ ys) x (inr i) n (inr j) = gone-without ys x i n.1 j

  pub no_more_than : (xs ys : List A) → AreDistinct xs → ((x : A) → IsIn xs x → IsIn ys x) → length xs ≤ length ys
  no_more_than [] ys n f = omega arith
  no_more_than (x ∷ xs) ys n f =
      let i = f x (inl refl) in
      let r = no_more_than xs (without ys x i) n.1 (λ z j. still_in ys x z i (λ p. n.0 (in_to xs x (let P : A → Type 0 = λ w. IsIn xs w in subst P (sym p) j))) (f z (inr j))) in
      omega (arith, length-without ys x i)

  -- a list with no more elements than there are different ones has each once
  pub once-by_count : (xs ys : List A) → AreDistinct xs → ((x : A) → IsIn xs x → IsIn ys x) → ((x : A) → IsIn ys x → IsIn xs x) → length ys ≤ length xs → AreDistinct ys
  once-by_count xs [] n f g l = tt
  once-by_count xs (y ∷ ys) n f g l =
      let i = g y (inl refl) in
      let m = length-without xs y i in
      let fresh : IsIn ys y → ⊥ = λ j.
      let r = no_more_than xs ys n (λ x k. elim (f x k) [ inl p ↦ (let P : A → Type 0 = λ w. IsIn ys w in subst P p j) | inr h ↦ h ]) in
      omega (arith, r, l) in (
        (λ c. fresh (in_from ys y c)),
        once-by_count (without xs y i) ys (once-without xs y i n)
            (λ x k. elim (f x (in_without xs y x i k)) [
              | inl p ↦ absurd (gone-without xs y i n (let P : A → Type 0 = λ w. IsIn (without xs y i) w in subst P (sym p) k))
              | inr h ↦ h
            ])
            (λ x k. still_in xs y x i (λ p. fresh (let P : A → Type 0 = λ w. IsIn ys w in subst P (sym p) k)) (g x (inr k)))
            (omega (arith, m, l)),
      )

  -- of two lists that have nothing in common
  pub once-append : (xs ys : List A) → AreDistinct xs → AreDistinct ys → ((x : A) → IsIn xs x → IsIn ys x → ⊥) → AreDistinct (xs ++ ys)
  once-append [] ys n m f = m
  once-append (x ∷ xs) ys n m f = (
    (λ c. elim (in_cases xs ys x (in_from (xs ++ ys) x c)) [ inl i ↦ n.0 (in_to xs x i) | inr i ↦ f x (inl refl) i ]),
    once-append xs ys n.1 m (λ z i j. f z (inr i) j),
  )
