-- Lists of different elements, and how long lists are that are made of others.
use Rattle.std.proofs.Common.{◌≡◌, ℕ, zero, suc, ◌+◌, ◌*◌, ◌<◌, ◌≤◌, List, [], ◌∷◌, length, map, refl, sym, subst, inl, inr, arith, length-append}
use Rattle.std.specs.Prelude.{◌⊎◌, ◌↔◌}
use Rattle.std.specs.List.{flat_map}
use Rattle.cls_base.specs.Terms.{Applicative, code_of, Precedes}
use Rattle.cls_base.specs.Lists.{AreDistinct}
use Rattle.cls_term.proofs.Codes.{code_of-one_to_one}
use Rattle.cls_term.proofs.Orders.{Precedes-total, Precedes-irrefl}
use Rattle.cls_enum.specs.Candidates.{over}
use Rattle.cls_enum.specs.Members.{IsIn}
use Rattle.cls_enum.proofs.Counting.{once-append}
use Rattle.cls_enum.proofs.Members.{in_from, in_to, in_over, in_flat_map, in_map}
use Rattle.cls_walk.specs.Counts.{total_below}

more_times : (n k : ℕ) → suc n * k ≡ n * k + k
more_times n k = grind arith

module _ {A B : Type 0} (f : A → List B) where
  -- pieces that are different, and have nothing in common
  pub once-flat_map : (xs : List A) → AreDistinct xs → ((x : A) → IsIn xs x → AreDistinct (f x)) → ((x y : A) (e : B) → IsIn xs x → IsIn xs y → IsIn (f x) e → IsIn (f y) e → x ≡ y) → AreDistinct (flat_map f xs)
  once-flat_map [] h p q = tt
  once-flat_map (x ∷ xs) h p q = once-append (f x) (flat_map f xs) (p x (inl refl))
      (once-flat_map xs h.1 (λ y i. p y (inr i)) (λ y z e i j. q y z e (inr i) (inr j)))
      (λ e i j. let r = in_flat_map f xs e j in
      let P : A → Type 0 = λ z. IsIn xs z in
      h.0 (in_to xs x (subst P (sym (q x r.0 e (inl refl) (inr r.1) i r.2)) r.1)))

  pub length-flat_map_most : (xs : List A) (k : ℕ) → ((x : A) → IsIn xs x → length (f x) ≤ k) → length (flat_map f xs) ≤ length xs * k
  length-flat_map_most [] k h = omega arith
  length-flat_map_most (x ∷ xs) k h =
      let a = h x (inl refl) in
      let b = length-flat_map_most xs k (λ y i. h y (inr i)) in
      let c : suc (length xs) * k ≡ length xs * k + k = more_times (length xs) k in
      omega (arith, a, b, c, length-append (f x) (flat_map f xs))

  pub length-flat_map_least : (xs : List A) (k : ℕ) → ((x : A) → IsIn xs x → k ≤ length (f x)) → length xs * k ≤ length (flat_map f xs)
  length-flat_map_least [] k h = omega arith
  length-flat_map_least (x ∷ xs) k h =
      let a = h x (inl refl) in
      let b = length-flat_map_least xs k (λ y i. h y (inr i)) in
      let c : suc (length xs) * k ≡ length xs * k + k = more_times (length xs) k in
      omega (arith, a, b, c, length-append (f x) (flat_map f xs))

module _ {A : Type 0} (f : ℕ → List A) where
  pub once-over : (n : ℕ) → ((t : ℕ) → t < n → AreDistinct (f t)) → ((t u : ℕ) (e : A) → t < n → u < n → IsIn (f t) e → IsIn (f u) e → t ≡ u) → AreDistinct (over n f)
  once-over zero p q = tt
  once-over (suc n) p q = once-append (over n f) (f n)
      (once-over n (λ t l. p t (omega arith)) (λ t u e l m. q t u e (omega arith) (omega arith)))
      (p n (omega arith))
      (λ e i j. let r = in_over n f e i in
      let z = q r.0 n e (omega (arith, r.1)) (omega arith) r.2 j in
      omega (arith, r.1, z))

  pub length-over_most : (n : ℕ) (g : ℕ → ℕ) → ((t : ℕ) → t < n → length (f t) ≤ g t) → length (over n f) ≤ total_below n g
  length-over_most zero g h = omega arith
  length-over_most (suc n) g h = omega (arith, length-append (over n f) (f n), length-over_most n g (λ t l. h t (omega arith)), h n (omega arith))

  pub length-over_least : (n : ℕ) (g : ℕ → ℕ) → ((t : ℕ) → t < n → g t ≤ length (f t)) → total_below n g ≤ length (over n f)
  length-over_least zero g h = omega arith
  length-over_least (suc n) g h = omega (arith, length-append (over n f) (f n), length-over_least n g (λ t l. h t (omega arith)), h n (omega arith))

pub once-map : {A B : Type 0} (f : A → B) (xs : List A) → ((x y : A) → f x ≡ f y → x ≡ y) → AreDistinct xs → AreDistinct (map f xs)
once-map f [] h n = tt
once-map {A} f (x ∷ xs) h n = (
  (λ c. let r = in_map f xs (f x) (in_from (map f xs) (f x) c) in
      let P : A → Type 0 = λ z. IsIn xs z in
      n.0 (in_to xs x (subst P (h r.0 x r.2) r.1))),
  once-map f xs h n.1,
)

-- whether terms are equal, and whether a term is in a list
same_or_not : (e f : Applicative) → (e ≡ f) ⊎ (e ≡ f → ⊥)
same_or_not e f = elim (Precedes-total (code_of e) (code_of f)) [
  | inl l ↦ inr (λ p. Precedes-irrefl (code_of f) (let P : Applicative → Type 0 = λ z. Precedes (code_of z) (code_of f) in subst P p l))
  | inr q ↦ elim q [
    | inl p ↦ inl (code_of-one_to_one e f p)
    | inr l ↦ inr (λ p. Precedes-irrefl (code_of f) (let P : Applicative → Type 0 = λ z. Precedes (code_of f) (code_of z) in subst P p l))
  ]
]

in_or_not : (xs : List Applicative) (e : Applicative) → IsIn xs e ⊎ (IsIn xs e → ⊥)
in_or_not [] e = inr (λ i. i)
in_or_not (x ∷ xs) e = elim (same_or_not x e) [
  | inl p ↦ inl (inl p)
  | inr n ↦ elim (in_or_not xs e) [
    | inl i ↦ inl (inr i)
    | inr m ↦ inr (λ i. elim i [ inl p ↦ n p | inr j ↦ m j ])
  ]
]

-- a list of the same terms, each once
pub each_once : (xs : List Applicative) → (ys : List Applicative) × AreDistinct ys × ((e : Applicative) → IsIn ys e ↔ IsIn xs e)
each_once [] = ([], tt, (λ e. ((λ i. i), (λ i. i))))
each_once (x ∷ xs) = let r = each_once xs in elim (in_or_not r.0 x) [
  | inl i ↦ (
    r.0,
    r.1,
    (λ e. (
      (λ j. inr ((r.2 e).0 j)),
      (λ j. elim j [ inl p ↦ (let P : Applicative → Type 0 = λ z. IsIn r.0 z in subst P p i) | inr k ↦ (r.2 e).1 k ]),
    )),
  )
  | inr n ↦ (
    x ∷ r.0,
    ((λ c. n (in_from r.0 x c)), r.1),
    (λ e. (
      (λ j. elim j [ inl p ↦ inl p | inr k ↦ inr ((r.2 e).0 k) ]),
      (λ j. elim j [ inl p ↦ inl p | inr k ↦ inr ((r.2 e).1 k) ]),
    )),
  )
]
