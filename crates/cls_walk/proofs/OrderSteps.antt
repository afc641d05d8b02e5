-- Steps of testing whether heads are in order.
use Rattle.std.proofs.Common.{◌≡◌, ℕ, ◌+◌, ◌<◌, ◌≤◌, List, [], ◌∷◌, ◌++◌, length, take, refl, sym, ap, ◌∙◌, subst, inl, inr, arith}
use Rattle.std.specs.Prelude.{◌⊎◌, Some, slice_get}
use Rattle.std.proofs.lemmas.Bool.{cases_lt}
use Rattle.std.proofs.lemmas.List.{get_or_past}
use Rattle.cls_base.specs.declared.rule.Rule.{Rule}
use Rattle.cls_base.specs.declared.rule.Rule.TheVariants.{Head, Any}
use Rattle.cls_base.specs.Languages.{rules_at}
use Rattle.cls_enum.specs.Members.{IsIn}
use Rattle.cls_enum.proofs.Members.{in_cases}
use Rattle.cls_walk.specs.Counts.{HeadRule, heads_of}
use Rattle.cls_walk.specs.Orders.{NotAfter, InOrder, IsOrdered}
use Rattle.cls_walk.proofs.Columns.{rules-next}

-- no later than component x with k arguments
abbrev UpTo : ℕ → ℕ → HeadRule → Type 0
UpTo x k h = (h.0 < x) ⊎ ((h.0 ≡ x) × (length h.1 ≤ k))

heads_of-push : (rs : List (Rule ℕ)) (r : Rule ℕ) → heads_of (rs ++ r ∷ []) ≡ heads_of rs ++ heads_of (r ∷ [])
heads_of-push [] r = refl
heads_of-push (Head x ns ∷ rs) r = ap (λ (hs : List HeadRule). (x, ns) ∷ hs) (heads_of-push rs r)
heads_of-push (Any l m ∷ rs) r = heads_of-push rs r

in_order-push : (hs : List HeadRule) (g : HeadRule) → InOrder hs → ((h : HeadRule) → IsIn hs h → NotAfter h g) → InOrder (hs ++ g ∷ [])
in_order-push [] g o f = ((λ h i. absurd i), tt)
in_order-push (h ∷ hs) g o f = (
  (λ q i. elim (in_cases hs (g ∷ []) q i) [
    | inl j ↦ o.0 q j
    | inr j ↦ elim j [ inl p ↦ (let P : HeadRule → Type 0 = λ z. NotAfter h z in subst P p (f h (inl refl))) | inr z ↦ absurd z ]
  ]),
  in_order-push hs g o.1 (λ q i. f q (inr i)),
)

up_to-step : (x k y m : ℕ) (h : HeadRule) → UpTo x k h → x ≤ y → (y ≡ x → k ≤ m) → UpTo y m h
up_to-step x k y m h (inl l) p q = inl (omega arith)
up_to-step x k y m h (inr l) p q = elim (cases_lt x y) [
  | inl z ↦ inl (let w = l.0 in omega arith)
  | inr z ↦
      let e : x ≡ y = omega arith in
      let a = q (sym e) in
      let b = l.1 in
      inr (l.0 ∙ e, omega arith)
]

-- one more head, which is no earlier than the last
pub ends-head : (x k y m : ℕ) (ns : List ℕ) (hs : List HeadRule) → m ≡ length ns → x ≤ y → (y ≡ x → k ≤ m) → InOrder hs → ((h : HeadRule) → IsIn hs h → UpTo x k h) → InOrder (hs ++ (y, ns) ∷ []) × ((h : HeadRule) → IsIn (hs ++ (y, ns) ∷ []) h → UpTo y m h)
ends-head x k y m ns hs e p q o u =
    let f : (h : HeadRule) → IsIn hs h → UpTo y m h = λ h i. up_to-step x k y m h (u h i) p q in
    let P : ℕ → Type 0 = λ n. (h : HeadRule) → IsIn hs h → UpTo y n h in (
      in_order-push hs (y, ns) o (subst P e f),
      (λ h i. elim (in_cases hs ((y, ns) ∷ []) h i) [
        | inl j ↦ f h j
        | inr j ↦ elim j [
          | inl z ↦ (let Q : HeadRule → Type 0 = λ g. UpTo y m g in subst Q z (inr (refl, omega (arith, e))))
          | inr z ↦ absurd z
        ]
      ]),
    )

-- a rule that is no head
pub none-more : (P : List HeadRule → Type 0) (hs : List HeadRule) → P hs → P (hs ++ [])
none-more P hs h = subst P (sym (plain hs)) h
  where
    plain : (hs : List HeadRule) → hs ++ [] ≡ hs
    plain [] = refl
    plain (x ∷ hs) = ap (λ (gs : List HeadRule). x ∷ gs) (plain hs)

-- the heads up to the next rule
pub heads-next : (rs : List (Rule ℕ)) (i : ℕ) (r : Rule ℕ) → slice_get rs i ≡ Some r → heads_of (take i rs) ++ heads_of (r ∷ []) ≡ heads_of (take (i + 1) rs)
heads-next rs i r p = sym (heads_of-push (take i rs) r) ∙ ap heads_of (sym (rules-next rs i r p))

pub ordered-whole : (book : List (List (Rule ℕ))) (i : ℕ) → length book ≤ i → ((n : ℕ) → n < i → InOrder (heads_of (rules_at book n))) → IsOrdered book
ordered-whole book i l h n = elim (cases_lt n i) [
  | inl m ↦ h n m
  | inr m ↦
      let e : rules_at book n ≡ [] = get_or_past book n [] (omega arith) in
      let P : List (Rule ℕ) → Type 0 = λ rs. InOrder (heads_of rs) in
      subst P (sym e) tt
]

pub ordered-next : (book : List (List (Rule ℕ))) (i : ℕ) (rs : List (Rule ℕ)) → rs ≡ rules_at book i → InOrder (heads_of rs) → ((n : ℕ) → n < i → InOrder (heads_of (rules_at book n))) → (n : ℕ) → n < i + 1 → InOrder (heads_of (rules_at book n))
ordered-next book i rs p o h n l = elim (cases_lt n i) [
  | inl m ↦ h n m
  | inr m ↦
      let e : i ≡ n = omega arith in
      let P : List (Rule ℕ) → Type 0 = λ qs. InOrder (heads_of qs) in
      let Q : ℕ → Type 0 = λ k. InOrder (heads_of (rules_at book k)) in
      subst Q e (subst P p o)
]
