-- A listing of terms by size is a page, once it is full or has all.
use Rattle.std.proofs.Common.{◌≡◌, ℕ, zero, suc, ◌+◌, ◌<◌, ◌≤◌, List, [], ◌∷◌, ◌++◌, length, map, take, drop, refl, sym, ap, ◌∙◌, subst, inl, inr, arith, length-append, take-append-drop, Bool, true, false}
use Rattle.std.specs.Prelude.{◌⊎◌, ◌↔◌, IsTrue, nat_lt, Contains}
use Rattle.std.proofs.lemmas.Bool.{cases_lt}
use Rattle.std.proofs.lemmas.Bool.Decides.{nat_tests}
use Rattle.cls_base.specs.Terms.{Applicative, size_of, code_of, Before}
use Rattle.cls_base.specs.Lists.{AreDistinct}
use Rattle.cls_base.specs.Pages.{Request, IsDue, IsPage, Rises, AfterLast}
use Rattle.cls_base.specs.Pools.{IsEnough}
use Rattle.cls_term.proofs.Codes.{code_of-one_to_one}
use Rattle.cls_term.proofs.Orders.{Before-irrefl, Before-trans}
use Rattle.cls_enum.specs.Members.{IsIn}
use Rattle.cls_enum.proofs.Members.{in_from, in_to, in_left, in_right, in_cases, in-take}
use Rattle.cls_enum.proofs.PageLaws.{rises-tail, rises-before, rises-cons, rises-append, rises-take, after-all, length-take_all}
use Rattle.cls_walk.specs.Fronts.{Ascends, IsFront}
use Rattle.cls_walk.specs.PageFronts.{IsDueFront, IsDueCode}

module _ (cost : ℕ → ℕ) where
  -- in a list that rises, what stands in front comes before what stands behind
  cross : (xs ys : List Applicative) (x y : Applicative) → Rises cost (xs ++ ys) → IsIn xs x → IsIn ys y → Before cost x y
  cross [] ys x y h i j = absurd i
  cross (z ∷ xs) ys x y h (inl p) j = let P : Applicative → Type 0 = λ w. Before cost w y in subst P p (rises-before cost z y (xs ++ ys) h (in_right xs ys y j))
  cross (z ∷ xs) ys x y h (inr i) j = cross xs ys x y (rises-tail cost z (xs ++ ys) h) i j

  all-before : (e z : Applicative) (xs : List Applicative) → Rises cost xs → AfterLast cost xs e → IsIn xs z → Before cost z e
  all-before e z [] h a i = absurd i
  all-before e z (x ∷ []) h a (inl p) = let P : Applicative → Type 0 = λ y. Before cost y e in subst P p a
  all-before e z (x ∷ []) h a (inr i) = absurd i
  all-before e z (x ∷ y ∷ xs) h a (inl p) = let P : Applicative → Type 0 = λ w. Before cost w e in subst P p (Before-trans cost x y e h.0 (all-before e y (y ∷ xs) h.1 a (inl refl)))
  all-before e z (x ∷ y ∷ xs) h a (inr i) = all-before e z (y ∷ xs) h.1 a i

  after-some : (e : Applicative) (xs : List Applicative) → 0 < length xs → ((z : Applicative) → IsIn xs z → Before cost z e) → AfterLast cost xs e
  after-some e [] l f = absurd (omega arith)
  after-some e (x ∷ xs) l f = after-all cost x e xs f

  -- no term stands twice in a list that rises
  rises-once : (xs : List Applicative) → Rises cost xs → AreDistinct xs
  rises-once [] h = tt
  rises-once (x ∷ xs) h = ((λ c. Before-irrefl cost x (rises-before cost x x xs h (in_from xs x c))), rises-once xs (rises-tail cost x xs h))

some-there : (xs : List Applicative) → 0 < length xs → (x : Applicative) × IsIn xs x
some-there [] l = absurd (omega arith)
some-there (x ∷ xs) l = (x, inl refl)

some-in : (xs : List Applicative) (e : Applicative) → IsIn xs e → 1 ≤ length xs
some-in [] e i = absurd i
some-in (x ∷ xs) e i = omega arith

length-first : (n : ℕ) (xs : List Applicative) → length (take n xs) ≤ n
length-first zero xs = omega arith
length-first (suc n) [] = omega arith
length-first (suc n) (x ∷ xs) = omega (arith, length-first n xs)

whole-first : (n : ℕ) (xs : List Applicative) → length xs ≤ n → drop n xs ≡ []
whole-first zero [] l = refl
whole-first zero (x ∷ xs) l = absurd (omega arith)
whole-first (suc n) [] l = refl
whole-first (suc n) (x ∷ xs) l = whole-first n xs (omega arith)

module _ (IsTerm : Applicative → Type 0) (r : Request) (some : 1 ≤ r.take) (s : ℕ) (es : List Applicative) (within : s ≤ r.max)
    (front : IsDueFront (IsDue IsTerm r) r.cost (s + 1) (r.take < length es) es) (decides : (r.take < length es) ⊎ (s ≡ r.max)) where
  abbrev cost : ℕ → ℕ
  cost = r.cost

  abbrev n : ℕ
  n = r.take

  abbrev ts : List Applicative
  ts = take n es

  abbrev us : List Applicative
  us = drop n es

  parts : ts ++ us ≡ es
  parts = take-append-drop n es

  lengths : length ts + length us ≡ length es
  lengths = sym (length-append ts us) ∙ ap (λ (xs : List Applicative). length xs) parts

  rising : Rises cost (ts ++ us)
  rising = let P : List Applicative → Type 0 = λ xs. Rises cost xs in subst P (sym parts) front.rises

  there : (e : Applicative) → IsIn (ts ++ us) e → IsIn es e
  there e i = let P : List Applicative → Type 0 = λ xs. IsIn xs e in subst P parts i

  here : (e : Applicative) → IsIn es e → IsIn (ts ++ us) e
  here e i = let P : List Applicative → Type 0 = λ xs. IsIn xs e in subst P (sym parts) i

  full-first : n < length es → length ts ≡ n
  full-first l = length-take_all n es (omega arith)

  after-first : (e : Applicative) → IsIn us e → AfterLast cost ts e
  after-first e i =
      let m = some-in us e i in
      let k : 0 < length ts = elim (cases_lt n (length es)) [
        | inl l ↦ (let z = full-first l in omega (arith, z, some))
        | inr l ↦ absurd (let z = ap (λ (xs : List Applicative). length xs) (whole-first n es l) in omega (arith, z, m))
      ] in
      after-some cost e ts k (λ z j. cross cost ts us z e rising j i)

  -- a due term is listed, or the list is full and the term comes after all of it
  found : (e : Applicative) → IsDue IsTerm r e → IsIn es e ⊎ ((n < length es) × ((f : Applicative) → IsIn es f → Before cost f e))
  found e d = elim (cases_lt s (size_of cost e)) [
    | inl l ↦ elim decides [
      | inl m ↦ inr (m, (λ f i. inl (let z = (front.each f i).1 in omega (arith, z, l))))
      | inr p ↦ absurd (let z = d.small in omega (arith, z, p, l))
    ]
    | inr l ↦ front.all e d (omega arith)
  ]

  complete-part : (e : Applicative) → IsDue IsTerm r e → Contains ts e ⊎ AfterLast cost ts e
  complete-part e d = elim (found e d) [
    | inl i ↦ elim (in_cases ts us e (here e i)) [ inl j ↦ inl (in_to ts e j) | inr j ↦ inr (after-first e j) ]
    | inr h ↦ inr (after-some cost e ts (let z = full-first h.0 in omega (arith, z, some)) (λ z j. h.1 z (in-take n z es j)))
  ]

  more-part : n < length es → (e : Applicative) × IsDue IsTerm r e × AfterLast cost ts e
  more-part l =
      let q = some-there us (let z = full-first l in omega (arith, z, lengths, l)) in
      (q.0, (front.each q.0 (there q.0 (in_right ts us q.0 q.1))).0, after-first q.0 q.1)

  no-more : length es ≤ n → (e : Applicative) → IsDue IsTerm r e → AfterLast cost ts e → ⊥
  no-more l e d a = elim (found e d) [
    | inl i ↦ elim (in_cases ts us e (here e i)) [
      | inl j ↦ Before-irrefl cost e (all-before cost e e ts (rises-take cost n es front.rises) a j)
      | inr j ↦ (let P : List Applicative → Type 0 = λ xs. IsIn xs e in subst P (whole-first n es l) j)
    ]
    | inr h ↦ (let z = h.0 in omega (arith, z, l))
  ]

  more-test : (b : Bool) → b ≡ nat_lt n (length es) → IsTrue b ↔ ((e : Applicative) × IsDue IsTerm r e × AfterLast cost ts e)
  more-test b p = elim (cases_lt n (length es)) [
    | inl l ↦ ((λ t. more-part l), (λ q. let c : b ≡ true = grind (arith, nat_tests) in c))
    | inr l ↦ ((λ t. let c : b ≡ false = grind (arith, nat_tests) in absurd (cc)), (λ q. absurd (no-more l q.0 q.1 q.2)))
  ]

  full-part : (b : Bool) → b ≡ nat_lt n (length es) → IsTrue b → length ts ≡ n
  full-part b p t = elim (cases_lt n (length es)) [
    | inl l ↦ full-first l
    | inr l ↦ let c : b ≡ false = grind (arith, nat_tests) in absurd (cc)
  ]

  pub front_is_page : IsPage IsTerm r ts (nat_lt n (length es))
  front_is_page = record {
    rises = rises-take cost n es front.rises;
    due = λ e c. (front.each e (in-take n e es (in_from ts e c))).0;
    complete = complete-part;
    more_exactly = more-test (nat_lt n (length es)) refl;
    at_most = length-first n es;
    full = full-part (nat_lt n (length es)) refl;
  }

  -- the size is one at which the page is known
  pub front_decides : IsEnough (IsDue IsTerm r) cost n s ⊎ (s ≡ r.max)
  front_decides = elim decides [
    | inr p ↦ inr p
    | inl l ↦ inl (
      take (n + 1) es,
      rises-once cost (take (n + 1) es) (rises-take cost (n + 1) es front.rises),
      (λ e c. let i = in-take (n + 1) e es (in_from (take (n + 1) es) e c) in let z = (front.each e i).1 in ((front.each e i).0, omega (arith, z))),
      length-take_all (n + 1) es (omega arith),
    )
  ]

-- the code of a term of the list
pub code-in : (es : List Applicative) (e : Applicative) → IsIn es e → IsIn (map code_of es) (code_of e)
code-in [] e i = absurd i
code-in (x ∷ es) e (inl p) = inl (ap code_of p)
code-in (x ∷ es) e (inr i) = inr (code-in es e i)

-- the terms whose codes are listed: one size more
module _ (Due : Applicative → Type 0) (cost : ℕ → ℕ) where
  in-code : (es : List Applicative) (e : Applicative) → IsIn (map code_of es) (code_of e) → IsIn es e
  in-code [] e i = absurd i
  in-code (x ∷ es) e (inl p) = inl (code_of-one_to_one x e p)
  in-code (x ∷ es) e (inr i) = inr (in-code es e i)

  rises-codes : (s : ℕ) (es : List Applicative) → ((e : Applicative) → IsIn es e → size_of cost e ≡ s) → Ascends (map code_of es) → Rises cost es
  rises-codes s [] f h = tt
  rises-codes s (e ∷ es) f h = rises-cons cost e es
      (λ g i. inr (f e (inl refl) ∙ sym (f g (inr i)), h.0 (code_of g) (code-in es g i)))
      (rises-codes s es (λ g i. f g (inr i)) h.1)

  -- the terms of smaller sizes, and then those of size s in the order of their codes
  pub front-size : (s : ℕ) (F : Type 0) (es fs : List Applicative) → IsDueFront Due cost s ⊥ es → IsFront (IsDueCode Due cost s) F (map code_of fs) → IsDueFront Due cost (s + 1) F (es ++ fs)
  front-size s F es fs h k =
      let member : (e : Applicative) → IsIn fs e → Due e × (size_of cost e ≡ s) = λ e i.
      (let c = k.each (code_of e) (code-in fs e i) in
      let p : c.0 ≡ e = code_of-one_to_one c.0 e (sym c.3) in
      let P : Applicative → Type 0 = λ z. Due z × (size_of cost z ≡ s) in
      subst P p (c.1, c.2)) in
      record {
        rises = rises-append cost es fs h.rises (rises-codes s fs (λ e i. (member e i).1) k.ascends)
            (λ x y i j. inl (let a = (h.each x i).1 in let b = (member y j).1 in omega (arith, a, b)));
        each = λ e i. elim (in_cases es fs e i) [
          | inl j ↦ (let a = h.each e j in (a.0, (let z = a.1 in omega (arith, z))))
          | inr j ↦ (let a = member e j in (a.0, (let z = a.1 in omega (arith, z))))
        ];
        all = λ e t l. elim (cases_lt (size_of cost e) s) [
          | inl z ↦ elim (h.all e t z) [ inl j ↦ inl (in_left es fs e j) | inr j ↦ absurd j.0 ]
          | inr z ↦
              let p : size_of cost e ≡ s = omega (arith, z, l) in
              elim (k.all (code_of e) (e, t, p, refl)) [
                | inl j ↦ inl (in_right es fs e (in-code fs e j))
                | inr j ↦ inr (
                  j.0,
                  (λ f i. elim (in_cases es fs f i) [
                    | inl o ↦ inl (let a = (h.each f o).1 in omega (arith, a, p))
                    | inr o ↦ inr ((member f o).1 ∙ sym p, j.1 (code_of f) (code-in fs f o))
                  ]),
                )
              ]
        ];
      }
