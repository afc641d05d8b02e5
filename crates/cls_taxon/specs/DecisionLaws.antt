-- internal: the answer for two names is right, and the laws of an order hold whatever was declared. Kept here since the laws
-- of an `impl` are cited from specs/.
use Rattle.std.proofs.Common.{◌≡◌, ℕ, ◌⊎◌, inl, inr, List, [], ◌∷◌, Bool, true, false, cond, IsTrue, refl, sym, subst, ap, ◌∙◌, arith, ◌&&◌, ◌||◌}
use Rattle.std.specs.Prelude.{Contains, ◌==◌, not, ◌↔◌, ◌+◌, if◌then◌else◌}
use Rattle.std.specs.List.{list_all}
use Rattle.std.proofs.lemmas.Bool.{cases_eq, cases_Bool, and_parts, and_from, or_cases}
use Rattle.std.proofs.lemmas.Bool.Decides.{nat_tests}
use Rattle.cls_base.specs.Taxonomies.{Variance, covariant, contravariant, invariant, Chain, stay, step}
use Rattle.cls_base.proofs.Lists.{Contains-nil, Contains-here, Contains-later, Contains-cases}
use Rattle.cls_taxon.specs.Orders.{Declared, variance_in, stands_in, class_by, IsOnCycle, KeepsVariance, IsOrder}
use Rattle.cls_taxon.specs.Decisions.{leads, same_variance, fits_order, is_order, is_below}
use Rattle.cls_taxon.specs.Laws.{LookupsAreChains}

pub same_name : (a b : ℕ) → (a == b) ≡ true → a ≡ b
same_name a b e = grind (arith, nat_tests)

pub name_same : (a b : ℕ) → a ≡ b → (a == b) ≡ true
name_same a b e = grind (arith, nat_tests)

pub or_left : (x y : Bool) → x ≡ true → (x || y) ≡ true
or_left x y e = subst (λ z. (z || y) ≡ true) (sym e) refl

pub or_right : (x y : Bool) → y ≡ true → (x || y) ≡ true
or_right true y e = refl
or_right false y e = e

-- Chains.
pub Chain-trans : (pairs : List (ℕ × ℕ)) (a b c : ℕ) → Chain pairs a b → Chain pairs b c → Chain pairs a c
Chain-trans pairs a b c stay q = q
Chain-trans pairs a b c (step {d = e} p h) q = step p (Chain-trans pairs e b c h q)

Chain-none : (a b : ℕ) → Chain [] a b → a ≡ b
Chain-none a b stay = refl
Chain-none a b (step {d = e} p h) = absurd (Contains-nil (a, e) p)

Chain-more : (p : ℕ × ℕ) (pairs : List (ℕ × ℕ)) (a b : ℕ) → Chain pairs a b → Chain (p ∷ pairs) a b
Chain-more p pairs a b stay = stay
Chain-more p pairs a b (step {d = e} q h) = step (Contains-later (a, e) p pairs q) (Chain-more p pairs e b h)

-- a chain goes through the first pair at most once
Chain-split :
    (p : ℕ × ℕ) (pairs : List (ℕ × ℕ)) (a b : ℕ) → Chain (p ∷ pairs) a b
    → Chain pairs a b ⊎ (Chain pairs a p.0 × Chain pairs p.1 b)
Chain-split p pairs a b stay = inl stay
Chain-split p pairs a b (step {d = e} q h) = elim (Contains-cases p pairs (a, e) q) [
  | inl here ↦
      let to : Chain pairs a p.0 = subst (λ (x : ℕ × ℕ). Chain pairs a x.0) here stay in
      elim (Chain-split p pairs e b h) [
        | inl direct ↦ inr (to, subst (λ (x : ℕ × ℕ). Chain pairs x.1 b) here direct)
        | inr through ↦ inr (to, through.1)
      ]
  | inr there ↦ elim (Chain-split p pairs e b h) [
    | inl direct ↦ inl (step there direct)
    | inr through ↦ inr (step there through.0, through.1)
  ]
]

pub leads-Chain : (pairs : List (ℕ × ℕ)) (a b : ℕ) → leads pairs a b ≡ true → Chain pairs a b
unfolding leads
leads-Chain [] a b h = subst (λ x. Chain [] a x) (same_name a b h) stay
leads-Chain (p ∷ pairs) a b h = elim (or_cases (leads pairs a b) (leads pairs a p.0 && leads pairs p.1 b) h) [
  | inl direct ↦ Chain-more p pairs a b (leads-Chain pairs a b direct)
  | inr through ↦
      let both = and_parts (leads pairs a p.0) (leads pairs p.1 b) through in
      Chain-trans (p ∷ pairs) a p.0 b (Chain-more p pairs a p.0 (leads-Chain pairs a p.0 both.0))
      (step (Contains-here p pairs) (Chain-more p pairs p.1 b (leads-Chain pairs p.1 b both.1)))
]

pub Chain-leads : (pairs : List (ℕ × ℕ)) (a b : ℕ) → Chain pairs a b → leads pairs a b ≡ true
unfolding leads
Chain-leads [] a b h = name_same a b (Chain-none a b h)
Chain-leads (p ∷ pairs) a b h = elim (Chain-split p pairs a b h) [
  | inl direct ↦ or_left (leads pairs a b) _ (Chain-leads pairs a b direct)
  | inr through ↦ or_right (leads pairs a b) _ (and_from _ _ (Chain-leads pairs a p.0 through.0) (Chain-leads pairs p.1 b through.1))
]

-- Whether what was declared is an order.
same_variance-same : (v w : Variance) → same_variance v w ≡ true → v ≡ w
same_variance-same covariant covariant h = refl
same_variance-same contravariant contravariant h = refl
same_variance-same invariant invariant h = refl
same_variance-same covariant contravariant h = cc
same_variance-same covariant invariant h = cc
same_variance-same contravariant covariant h = cc
same_variance-same contravariant invariant h = cc
same_variance-same invariant covariant h = cc
same_variance-same invariant contravariant h = cc

same-same_variance : (v w : Variance) → v ≡ w → same_variance v w ≡ true
same-same_variance v w e = subst (λ x. same_variance v x ≡ true) e (itself v)
  where
    itself : (v : Variance) → same_variance v v ≡ true
    itself covariant = refl
    itself contravariant = refl
    itself invariant = refl

-- all elements of a list pass
passes_all : {A : Type 0} (f : A → Bool) (xs : List A) → ((x : A) → Contains xs x → f x ≡ true) → list_all f xs ≡ true
passes_all f [] h = refl
passes_all f (x ∷ xs) h = and_from (f x) (list_all f xs) (h x (Contains-here x xs)) (passes_all f xs (λ y c. h y (Contains-later y x xs c)))

all_passes : {A : Type 0} (f : A → Bool) (xs : List A) → list_all f xs ≡ true → (x : A) → Contains xs x → f x ≡ true
all_passes f [] h x c = absurd (Contains-nil x c)
all_passes f (y ∷ xs) h x c =
    let both = and_parts (f y) (list_all f xs) h in
    elim (Contains-cases y xs x c) [ inl e ↦ subst (λ z. f z ≡ true) (sym e) both.0 | inr there ↦ all_passes f xs both.1 x there ]

not_true : (b : Bool) → not b ≡ true → b ≡ true → ⊥
not_true true h e = cc
not_true false h e = cc

true_not : (b : Bool) → (b ≡ true → ⊥) → not b ≡ true
true_not true n = absurd (n refl)
true_not false n = refl

-- The pair doesn't go back: its names are one, or no chain leads from the second to the first.
abbrev IsForward : List (ℕ × ℕ) → ℕ × ℕ → Type 0
IsForward pairs p = (p.0 ≡ p.1) ⊎ (Chain pairs p.1 p.0 → ⊥)

-- if no pair goes back, a chain to another name doesn't either
Chain-antisymmetric :
    (pairs : List (ℕ × ℕ)) → ((p : ℕ × ℕ) → Contains pairs p → IsForward pairs p) → (a b : ℕ) → Chain pairs a b
    → Chain pairs b a → a ≡ b
Chain-antisymmetric pairs forward a b stay q = refl
Chain-antisymmetric pairs forward a b (step {d = e} p h) q = elim (forward (a, e) p) [
  | inl same ↦ same ∙ Chain-antisymmetric pairs forward e b h (subst (λ (x : ℕ). Chain pairs b x) same q)
  | inr n ↦ absurd (n (Chain-trans pairs e b a h q))
]

-- without a cycle no pair goes back
Chain-forward :
    (pairs : List (ℕ × ℕ)) → ((a : ℕ) → IsOnCycle pairs a → ⊥) → (p : ℕ × ℕ) → Contains pairs p → IsForward pairs p
Chain-forward pairs acyclic p h = elim (cases_eq p.0 p.1) [
  | inl e ↦ inl e
  | inr n ↦ inr (λ back. acyclic p.0 (p.1, n, step h stay, back))
]

fits_forward :
    (d : Declared) (p : ℕ × ℕ) → fits_order d p ≡ true
    → IsForward d.pairs p × (variance_in d.variances p.0 ≡ variance_in d.variances p.1)
unfolding fits_order
fits_forward d p h =
    let both = and_parts (p.0 == p.1 || not (leads d.pairs p.1 p.0)) (same_variance (variance_in d.variances p.0) (variance_in d.variances p.1)) h in (
      elim (or_cases (p.0 == p.1) (not (leads d.pairs p.1 p.0)) both.0) [
        | inl e ↦ inl (same_name p.0 p.1 e)
        | inr n ↦ inr (λ back. not_true (leads d.pairs p.1 p.0) n (Chain-leads d.pairs p.1 p.0 back))
      ],
      same_variance-same _ _ both.1,
    )

forward_fits :
    (d : Declared) (p : ℕ × ℕ) → IsForward d.pairs p → variance_in d.variances p.0 ≡ variance_in d.variances p.1
    → fits_order d p ≡ true
unfolding fits_order
forward_fits d p f e =
    let forward : (p.0 == p.1 || not (leads d.pairs p.1 p.0)) ≡ true = elim f [
      | inl same ↦ or_left (p.0 == p.1) _ (name_same p.0 p.1 same)
      | inr n ↦ or_right (p.0 == p.1) _ (true_not (leads d.pairs p.1 p.0) (λ h. n (leads-Chain d.pairs p.1 p.0 h)))
    ] in
    and_from _ _ forward (same-same_variance _ _ e)

is_order-IsOrder : (d : Declared) → is_order d ≡ true → IsOrder d
unfolding is_order
is_order-IsOrder d h =
    let fits = all_passes (fits_order d) d.pairs h in
    record {
      acyclic = λ a (b, n, up, down). n (Chain-antisymmetric d.pairs (λ p c. (fits_forward d p (fits p c)).0) a b up down);
      keeps = λ p c. (fits_forward d p (fits p c)).1;
    }

IsOrder-is_order : (d : Declared) → IsOrder d → is_order d ≡ true
unfolding is_order
IsOrder-is_order d o = passes_all (fits_order d) d.pairs (λ p c. forward_fits d p (Chain-forward d.pairs o.acyclic p c) (o.keeps p c))

Chain-variance :
    (d : Declared) → KeepsVariance d → (a b : ℕ) → Chain d.pairs a b
    → variance_in d.variances a ≡ variance_in d.variances b
Chain-variance d keeps a b stay = refl
Chain-variance d keeps a b (step {d = e} p h) = keeps (a, e) p ∙ Chain-variance d keeps e b h

-- an answer is a chain of an order, or two names that are one
abbrev Answer : Declared → ℕ → ℕ → Type 0
Answer d a b = (IsOrder d × Chain d.pairs a b) ⊎ ((IsOrder d → ⊥) × (a ≡ b))

answer : (d : Declared) (a b : ℕ) → IsTrue (is_below d a b) → Answer d a b
unfolding is_below
answer d a b h = step_by (is_order d) refl h
  where
    step_by : (o : Bool) → is_order d ≡ o → cond o (leads d.pairs a b) (a == b) ≡ true → Answer d a b
    step_by true e t = inl (is_order-IsOrder d e, leads-Chain d.pairs a b t)
    step_by false e t = inr ((λ o. let f = IsOrder-is_order d o in let g : false ≡ true = sym e ∙ f in cc), same_name a b t)

by_answer : (d : Declared) (a b : ℕ) → Answer d a b → IsTrue (is_below d a b)
unfolding is_below
by_answer d a b (inl (o, h)) = rw (IsOrder-is_order d o) (Chain-leads d.pairs a b h)
by_answer d a b (inr (n, e)) = step_by (is_order d) refl
  where
    step_by : (o : Bool) → is_order d ≡ o → cond o (leads d.pairs a b) (a == b) ≡ true
    step_by true f = absurd (n (is_order-IsOrder d f))
    step_by false f = name_same a b e

-- The laws of an order.
pub is_below-reflexive : (d : Declared) (a : ℕ) → IsTrue (is_below d a a)
is_below-reflexive d a = elim (cases_Bool (is_order d)) [
  | inl e ↦ by_answer d a a (inl (is_order-IsOrder d e, stay))
  | inr e ↦ by_answer d a a (inr ((λ o. let f = IsOrder-is_order d o in let g : false ≡ true = sym e ∙ f in cc), refl))
]

pub is_below-transitive :
    (d : Declared) (a b c : ℕ) → IsTrue (is_below d a b) → IsTrue (is_below d b c) → IsTrue (is_below d a c)
is_below-transitive d a b c p q = go (answer d a b p) (answer d b c q)
  where
    go : Answer d a b → Answer d b c → IsTrue (is_below d a c)
    go (inl (o, h)) (inl (o', k)) = by_answer d a c (inl (o, Chain-trans d.pairs a b c h k))
    go (inl (o, h)) (inr (n, e)) = absurd (n o)
    go (inr (n, e)) (inl (o, k)) = absurd (n o)
    go (inr (n, e)) (inr (m, f)) = by_answer d a c (inr (n, e ∙ f))

pub is_below-antisymmetric : (d : Declared) (a b : ℕ) → IsTrue (is_below d a b) → IsTrue (is_below d b a) → a ≡ b
is_below-antisymmetric d a b p q = go (answer d a b p) (answer d b a q)
  where
    go : Answer d a b → Answer d b a → a ≡ b
    go (inl (o, h)) (inl (o', k)) = Chain-antisymmetric d.pairs (Chain-forward d.pairs o.acyclic) a b h k
    go (inl (o, h)) (inr (n, e)) = absurd (n o)
    go (inr (n, e)) _ = e

pub is_below-one_variance :
    (d : Declared) (a b : ℕ) → IsTrue (is_below d a b) → variance_in d.variances a ≡ variance_in d.variances b
is_below-one_variance d a b p = elim (answer d a b p) [
  | inl (o, h) ↦ Chain-variance d o.keeps a b h
  | inr (n, e) ↦ ap (variance_in d.variances) e
]

-- names of a chain have one class
pub stands-lower : (pairs : List (ℕ × ℕ)) (p : ℕ × ℕ) → Contains pairs p → stands_in pairs p.0 ≡ true
stands-lower [] p c = absurd (Contains-nil p c)
stands-lower (q ∷ pairs) p c = elim (Contains-cases q pairs p c) [
  | inl e ↦ or_left _ _ (name_same p.0 q.0 (ap (λ (x : ℕ × ℕ). x.0) e))
  | inr k ↦ or_right (p.0 == q.0) _ (or_right (p.0 == q.1) _ (stands-lower pairs p k))
]

pub stands-upper : (pairs : List (ℕ × ℕ)) (p : ℕ × ℕ) → Contains pairs p → stands_in pairs p.1 ≡ true
stands-upper [] p c = absurd (Contains-nil p c)
stands-upper (q ∷ pairs) p c = elim (Contains-cases q pairs p c) [
  | inl e ↦ or_right (p.1 == q.0) _ (or_left _ _ (name_same p.1 q.1 (ap (λ (x : ℕ × ℕ). x.1) e)))
  | inr k ↦ or_right (p.1 == q.0) _ (or_right (p.1 == q.1) _ (stands-upper pairs p k))
]

pub class-standing : (pairs : List (ℕ × ℕ)) (a : ℕ) → stands_in pairs a ≡ true → class_by pairs a ≡ 0
class-standing pairs a e = ap (λ b. if b then 0 else a + 1) e

Chain-class : (pairs : List (ℕ × ℕ)) (a b : ℕ) → Chain pairs a b → class_by pairs a ≡ class_by pairs b
Chain-class pairs a b stay = refl
Chain-class pairs a b (step {d = d} p h) =
    class-standing pairs a (stands-lower pairs (a, d) p) ∙ (sym (class-standing pairs d (stands-upper pairs (a, d) p)) ∙ Chain-class pairs d b h)

pub is_below-one_class : (d : Declared) (a b : ℕ) → IsTrue (is_below d a b) → class_by d.pairs a ≡ class_by d.pairs b
is_below-one_class d a b p = elim (answer d a b p) [
  | inl (o, h) ↦ Chain-class d.pairs a b h
  | inr (n, e) ↦ ap (class_by d.pairs) e
]

-- a name below another one is that one, or a chain leads to it
pub same_or_Chain : (d : Declared) (a b : ℕ) → IsTrue (is_below d a b) → (a ≡ b) ⊎ Chain d.pairs a b
same_or_Chain d a b h = elim (answer d a b h) [ inl (o, c) ↦ inr c | inr (n, e) ↦ inl e ]

-- for an order, below is what a chain leads to
pub lookups_are_chains : LookupsAreChains
lookups_are_chains d o a b = (
  λ h. elim (answer d a b h) [ inl (o', c) ↦ c | inr (n, e) ↦ absurd (n o) ],
  λ c. by_answer d a b (inl (o, c)),
)

-- an answer that says whether a chain leads from the one name to the other
pub chain_answer :
    (d : Declared) → IsOrder d → (a b : ℕ) (answer : Bool) → IsTrue answer ↔ Chain d.pairs a b
    → answer ≡ is_below d a b
chain_answer d o a b true h = sym ((lookups_are_chains d o a b).1 (h.0 refl))
chain_answer d o a b false h = elim (cases_Bool (is_below d a b)) [
  | inl e ↦ h.1 ((lookups_are_chains d o a b).0 e) ∙ sym e
  | inr e ↦ sym e
]
