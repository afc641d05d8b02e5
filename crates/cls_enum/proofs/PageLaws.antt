-- The first terms of all due ones up to a size are the page.
use Rattle.std.proofs.Common.{◌≡◌, ℕ, zero, suc, ◌<◌, ◌≤◌, List, [], ◌∷◌, ◌++◌, length, take, refl, subst, inl, inr, arith, Bool, true, false}
use Rattle.std.specs.Prelude.{◌⊎◌, Contains, ◌↔◌, IsTrue, nat_lt}
use Rattle.std.proofs.lemmas.Bool.{cases_lt}
use Rattle.std.proofs.lemmas.Bool.Decides.{nat_tests}
use Rattle.cls_base.specs.Terms.{Applicative, size_of, Before}
use Rattle.cls_base.specs.Pages.{Request, IsDue, Rises, AfterLast, IsPage}
use Rattle.cls_term.proofs.Orders.{Before-trans, Before-irrefl}
use Rattle.cls_enum.specs.Members.{IsIn}
use Rattle.cls_enum.proofs.Members.{in_from, in_to, in_cases, in-take, take-whole}

module _ (cost : ℕ → ℕ) where
  pub rises-tail : (x : Applicative) (xs : List Applicative) → Rises cost (x ∷ xs) → Rises cost xs
  rises-tail x [] h = tt
  rises-tail x (y ∷ xs) h = h.1

  pub rises-before : (x e : Applicative) (xs : List Applicative) → Rises cost (x ∷ xs) → IsIn xs e → Before cost x e
  rises-before x e [] h i = absurd i
  rises-before x e (y ∷ xs) h (inl p) = let P : Applicative → Type 0 = λ z. Before cost x z in subst P p h.0
  rises-before x e (y ∷ xs) h (inr i) = Before-trans cost x y e h.0 (rises-before y e xs h.1 i)

  pub rises-cons : (x : Applicative) (xs : List Applicative) → ((e : Applicative) → IsIn xs e → Before cost x e) → Rises cost xs → Rises cost (x ∷ xs)
  rises-cons x [] f h = tt
  rises-cons x (y ∷ xs) f h = (f y (inl refl), h)

  pub rises-append : (xs ys : List Applicative) → Rises cost xs → Rises cost ys → ((x y : Applicative) → IsIn xs x → IsIn ys y → Before cost x y) → Rises cost (xs ++ ys)
  rises-append [] ys h i f = i
  rises-append (x ∷ xs) ys h i f = rises-cons x (xs ++ ys)
      (λ e j. elim (in_cases xs ys e j) [ inl k ↦ rises-before x e xs h k | inr k ↦ f x e (inl refl) k ])
      (rises-append xs ys (rises-tail x xs h) i (λ a b j k. f a b (inr j) k))

  pub rises-take : (n : ℕ) (xs : List Applicative) → Rises cost xs → Rises cost (take n xs)
  rises-take zero xs h = tt
  rises-take (suc n) [] h = tt
  rises-take (suc n) (x ∷ xs) h = rises-cons x (take n xs) (λ e i. rises-before x e xs h (in-take n e xs i)) (rises-take n xs (rises-tail x xs h))

  pub after-all : (x e : Applicative) (xs : List Applicative) → ((z : Applicative) → IsIn (x ∷ xs) z → Before cost z e) → AfterLast cost (x ∷ xs) e
  after-all x e [] h = h x (inl refl)
  after-all x e (y ∷ xs) h = after-all y e xs (λ z i. h z (inr i))

  all-before : (e z : Applicative) (xs : List Applicative) → Rises cost xs → AfterLast cost xs e → IsIn xs z → Before cost z e
  all-before e z [] h a i = absurd i
  all-before e z (x ∷ []) h a (inl p) = let P : Applicative → Type 0 = λ y. Before cost y e in subst P p a
  all-before e z (x ∷ []) h a (inr i) = absurd i
  all-before e z (x ∷ y ∷ xs) h a (inl p) = let P : Applicative → Type 0 = λ w. Before cost w e in subst P p (Before-trans cost x y e h.0 (all-before e y (y ∷ xs) h.1 a (inl refl)))
  all-before e z (x ∷ y ∷ xs) h a (inr i) = all-before e z (y ∷ xs) h.1 a i

  after-first : (x e : Applicative) (xs : List Applicative) → Before cost x e → ((z : Applicative) → IsIn xs z → Before cost z e) → (z : Applicative) → IsIn (x ∷ xs) z → Before cost z e
  after-first x e xs b f z (inl p) = let P : Applicative → Type 0 = λ w. Before cost w e in subst P p b
  after-first x e xs b f z (inr i) = f z i

  -- an element is among the first n, or comes after all of these
  split-at : (n : ℕ) (e : Applicative) (xs : List Applicative) → Rises cost xs → IsIn xs e → IsIn (take n xs) e ⊎ ((z : Applicative) → IsIn (take n xs) z → Before cost z e)
  split-at n e [] h i = absurd i
  split-at zero e (x ∷ xs) h i = inr (λ z j. absurd j)
  split-at (suc n) e (x ∷ xs) h (inl p) = inl (inl p)
  split-at (suc n) e (x ∷ xs) h (inr i) = elim (split-at n e xs (rises-tail x xs h) i) [
    | inl j ↦ inl (inr j)
    | inr f ↦ inr (after-first x e (take n xs) (rises-before x e xs h i) f)
  ]

  -- the one that follows the first n
  next-one : (n : ℕ) (xs : List Applicative) → Rises cost xs → n < length xs → (e : Applicative) × IsIn xs e × ((z : Applicative) → IsIn (take n xs) z → Before cost z e)
  next-one n [] h l = absurd (omega arith)
  next-one zero (x ∷ xs) h l = (x, inl refl, λ z j. absurd j)
  next-one (suc n) (x ∷ xs) h l =
      let q = next-one n xs (rises-tail x xs h) (omega arith) in
      (q.0, inr q.1, after-first x q.0 (take n xs) (rises-before x q.0 xs h q.1) q.2)

  -- after a list that isn't empty
  after-some : (n : ℕ) (e : Applicative) (xs : List Applicative) → 0 < n → 0 < length xs → ((z : Applicative) → IsIn (take n xs) z → Before cost z e) → AfterLast cost (take n xs) e
  after-some zero e xs l m f = absurd (omega arith)
  after-some (suc n) e [] l m f = absurd (omega arith)
  after-some (suc n) e (x ∷ xs) l m f = after-all x e (take n xs) f

in_some : (xs : List Applicative) (e : Applicative) → IsIn xs e → 0 < length xs
in_some [] e i = absurd i
in_some (x ∷ xs) e i = omega arith

length-take : {A : Type 0} (n : ℕ) (xs : List A) → length (take n xs) ≤ n
length-take zero xs = omega arith
length-take (suc n) [] = omega arith
length-take (suc n) (x ∷ xs) = omega (arith, length-take n xs)

pub length-take_all : {A : Type 0} (n : ℕ) (xs : List A) → n ≤ length xs → length (take n xs) ≡ n
length-take_all zero xs l = refl
length-take_all (suc n) [] l = absurd (omega arith)
length-take_all (suc n) (x ∷ xs) l = omega (arith, length-take_all n xs (omega arith))

module _ (Has : Applicative → Type 0) (r : Request) (s : ℕ) (ds : List Applicative) (rises : Rises r.cost ds) (members : (e : Applicative) → IsIn ds e ↔ (IsDue Has r e × (size_of r.cost e ≤ s)))
    (some : 0 < r.take) (within : s ≤ r.max) (decides : (r.take < length ds) ⊎ (s ≡ r.max)) where
  complete-part : (e : Applicative) → IsDue Has r e → Contains (take r.take ds) e ⊎ AfterLast r.cost (take r.take ds) e
  complete-part e d = elim (cases_lt s (size_of r.cost e)) [
    | inl l ↦ elim decides [
      | inl m ↦ inr (after-some r.cost r.take e ds some (omega arith) (λ z i. inl (let q = ((members z).0 (in-take r.take z ds i)).1 in omega arith)))
      | inr p ↦ let q = d.small in absurd (omega arith)
    ]
    | inr l ↦
        let i = (members e).1 (d, l) in
        elim (split-at r.cost r.take e ds rises i) [
          | inl j ↦ inl (in_to (take r.take ds) e j)
          | inr f ↦ inr (after-some r.cost r.take e ds some (in_some ds e i) f)
        ]
  ]

  more-part : (r.take < length ds) → (e : Applicative) × IsDue Has r e × AfterLast r.cost (take r.take ds) e
  more-part l =
      let q = next-one r.cost r.take ds rises l in
      (q.0, ((members q.0).0 q.1).0, after-some r.cost r.take q.0 ds some (omega arith) q.2)

  no-more : length ds ≤ r.take → (e : Applicative) → IsDue Has r e → AfterLast r.cost (take r.take ds) e → ⊥
  no-more l e d a = elim decides [
    | inl m ↦ omega arith
    | inr p ↦
        let P : List Applicative → Type 0 = λ xs. AfterLast r.cost xs e in
        let b = subst P (take-whole r.take ds l) a in
        let q = d.small in
        let i = (members e).1 (d, omega arith) in
        Before-irrefl r.cost e (all-before r.cost e e ds rises b i)
  ]

  more-test : (b : Bool) → b ≡ nat_lt r.take (length ds) → IsTrue b ↔ ((e : Applicative) × IsDue Has r e × AfterLast r.cost (take r.take ds) e)
  more-test b p = elim (cases_lt r.take (length ds)) [
    | inl l ↦ ((λ t. more-part l), (λ q. let c : b ≡ true = grind (arith, nat_tests) in c))
    | inr l ↦ ((λ t. let c : b ≡ false = grind (arith, nat_tests) in absurd (cc)), (λ q. absurd (no-more l q.0 q.1 q.2)))
  ]

  full-part : (b : Bool) → b ≡ nat_lt r.take (length ds) → IsTrue b → length (take r.take ds) ≡ r.take
  full-part b p t = elim (cases_lt r.take (length ds)) [
    | inl l ↦ length-take_all r.take ds (omega arith)
    | inr l ↦ let c : b ≡ false = grind (arith, nat_tests) in absurd (cc)
  ]

  pub first_are_page : IsPage Has r (take r.take ds) (nat_lt r.take (length ds))
  first_are_page = record {
    rises = rises-take r.cost r.take ds rises;
    due = λ e c. ((members e).0 (in-take r.take e ds (in_from (take r.take ds) e c))).0;
    complete = complete-part;
    more_exactly = more-test (nat_lt r.take (length ds)) refl;
    at_most = length-take r.take ds;
    full = full-part (nat_lt r.take (length ds)) refl;
  }
