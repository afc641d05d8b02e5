-- As many different terms as the runs of heads count, and as the greatest of several numbers.
use Rattle.std.proofs.Common.{◌≡◌, ℕ, ◌+◌, ◌<◌, ◌≤◌, max, List, [], ◌∷◌, ◌++◌, length, refl, sym, ◌∙◌, inl, inr, arith, length-append, true, false}
use Rattle.std.specs.Prelude.{◌⊎◌, nat_eq, ◌&&◌}
use Rattle.std.proofs.lemmas.Bool.{cases_lt}
use Rattle.std.proofs.lemmas.Bool.Decides.{nat_tests}
use Rattle.cls_base.specs.Terms.{Applicative, head_of, argument_count}
use Rattle.cls_base.specs.Lists.{AreDistinct}
use Rattle.cls_enum.specs.Members.{IsIn}
use Rattle.cls_enum.proofs.Counting.{once-append}
use Rattle.cls_enum.proofs.Members.{in_cases}
use Rattle.cls_walk.specs.Counts.{HeadRule, run, runs, greatest}
use Rattle.cls_walk.specs.Orders.{NotAfter, InOrder}
use Rattle.cls_walk.proofs.Counts.{chosen}

-- the term is of the kind of the head, and it is of this or a later kind
abbrev IsOfKind : HeadRule → Applicative → Type 0
IsOfKind h e = (head_of e ≡ h.0) × (argument_count e ≡ length h.1)

abbrev IsNotBefore : HeadRule → Applicative → Type 0
IsNotBefore h e = (h.0 < head_of e) ⊎ ((h.0 ≡ head_of e) × (length h.1 ≤ argument_count e))

same-kind : (h g : HeadRule) → (nat_eq h.0 g.0 && nat_eq (length h.1) (length g.1)) ≡ true → (h.0 ≡ g.0) × (length h.1 ≡ length g.1)
same-kind h g p = (grind (arith, nat_tests), grind (arith, nat_tests))

-- kinds that differ, in order
kind-later : (x y m n c d : ℕ) → (nat_eq x y && nat_eq m n) ≡ false → (x < y) ⊎ ((x ≡ y) × (m ≤ n)) → (y < c) ⊎ ((y ≡ c) × (n ≤ d)) → (c ≡ x) × (d ≡ m) → ⊥
kind-later x y m n c d p (inl l) (inl k) q = let z = q.0 in omega arith
kind-later x y m n c d p (inl l) (inr k) q = let z = q.0 in let y = k.0 in omega arith
kind-later x y m n c d p (inr l) (inl k) q = let z = q.0 in let y = l.0 in omega arith
kind-later x y m n c d p (inr l) (inr k) q =
    let a = l.1 in
    let b = k.1 in
    let z = q.1 in
    let e : m ≡ n = omega arith in
    differ x y m n p l.0 e
  where
    differ : (x y m n : ℕ) → (nat_eq x y && nat_eq m n) ≡ false → x ≡ y → m ≡ n → ⊥
    differ x y m n p d e = grind (arith, nat_tests)

not_before-step : (h g : HeadRule) (e : Applicative) → NotAfter h g → IsNotBefore g e → IsNotBefore h e
not_before-step h g e (inl l) (inl k) = inl (omega arith)
not_before-step h g e (inl l) (inr k) = inl (let z = k.0 in omega arith)
not_before-step h g e (inr l) (inl k) = inl (let z = l.0 in omega arith)
not_before-step h g e (inr l) (inr k) = inr (l.0 ∙ k.0, (let a = l.1 in let b = k.1 in omega arith))

module _ (f : HeadRule → ℕ) (P : Applicative → Type 0) where
  -- a list of different terms of the kind of the head, as long as its value
  abbrev Shown : HeadRule → ℕ → Type 0
  Shown h k = (es : List Applicative) × AreDistinct es × (k ≤ length es) × ((e : Applicative) → IsIn es e → P e × IsOfKind h e)

  abbrev Following : HeadRule → ℕ → Type 0
  Following h k = (es : List Applicative) × AreDistinct es × (k ≤ length es) × ((e : Applicative) → IsIn es e → P e × IsNotBefore h e)

  run-shown : (hs : List HeadRule) (h : HeadRule) (best : ℕ) → Shown h best → ((g : HeadRule) → IsIn hs g → Shown g (f g)) → InOrder (h ∷ hs) → Following h (run f h.0 (length h.1) best hs)
  run-shown [] h best s t o = (s.0, s.1, s.2, (λ e i. let q = s.3 e i in (q.0, inr (sym q.1.0, (let z = q.1.1 in omega arith)))))
  run-shown (g ∷ hs) h best s t o =
      chosen (λ (k : ℕ). Following h k) (nat_eq h.0 g.0 && nat_eq (length h.1) (length g.1)) (run f h.0 (length h.1) (max best (f g)) hs) (best + run f g.0 (length g.1) (f g) hs)
      (λ p.
      let k = same-kind h g p in
      let u = t g (inl refl) in
      let moved : Shown h (f g) = (u.0, u.1, u.2, (λ e i. let q = u.3 e i in (q.0, (q.1.0 ∙ sym k.0, q.1.1 ∙ sym k.1)))) in
      let better : Shown h (max best (f g)) = elim (cases_lt best (f g)) [
        | inl l ↦ (moved.0, moved.1, (let z = moved.2 in omega arith), moved.3)
        | inr l ↦ (s.0, s.1, (let z = s.2 in omega arith), s.3)
      ] in
      run-shown hs h (max best (f g)) better (λ x i. t x (inr i)) ((λ x i. o.0 x (inr i)), o.1.1))
      (λ p.
      let r = run-shown hs g (f g) (t g (inl refl)) (λ x i. t x (inr i)) o.1 in (
        s.0 ++ r.0,
        once-append s.0 r.0 s.1 r.1 (λ e i j. kind-later h.0 g.0 (length h.1) (length g.1) (head_of e) (argument_count e) p (o.0 g (inl refl)) (r.3 e j).1 (s.3 e i).1),
        (let a = s.2 in let b = r.2 in omega (arith, length-append s.0 r.0)),
        (λ e i. elim (in_cases s.0 r.0 e i) [
          | inl j ↦ (let q = s.3 e j in (q.0, inr (sym q.1.0, (let z = q.1.1 in omega arith))))
          | inr j ↦ (let q = r.3 e j in (q.0, not_before-step h g e (o.0 g (inl refl)) q.1))
        ]),
      ))

  pub runs-shown : (hs : List HeadRule) → ((h : HeadRule) → IsIn hs h → Shown h (f h)) → InOrder hs → (es : List Applicative) × AreDistinct es × (runs f hs ≤ length es) × ((e : Applicative) → IsIn es e → P e)
  runs-shown hs t o =
      let none : Shown (0, []) 0 = ([], tt, omega arith, (λ e i. absurd i)) in
      let r = run-shown hs (0, []) 0 none t ((λ g i. first g), o) in
      (r.0, r.1, r.2, (λ e i. (r.3 e i).0))
    where
      first : (g : HeadRule) → NotAfter (0, []) g
      first g = elim (cases_lt 0 g.0) [ inl l ↦ inl l | inr l ↦ inr (omega arith, omega arith) ]

pub greatest-shown : (f : ℕ × ℕ → ℕ) (P : Applicative → Type 0) (ps : List (ℕ × ℕ)) → ((p : ℕ × ℕ) → IsIn ps p → (es : List Applicative) × AreDistinct es × (f p ≤ length es) × ((e : Applicative) → IsIn es e → P e)) → (es : List Applicative) × AreDistinct es × (greatest f ps ≤ length es) × ((e : Applicative) → IsIn es e → P e)
greatest-shown f P [] t = ([], tt, omega arith, (λ e i. absurd i))
greatest-shown f P (p ∷ ps) t =
    let u = t p (inl refl) in
    let r = greatest-shown f P ps (λ q i. t q (inr i)) in
    elim (cases_lt (f p) (greatest f ps)) [
      | inl l ↦ (r.0, r.1, (let z = r.2 in omega arith), r.3)
      | inr l ↦ (u.0, u.1, (let z = u.2 in omega arith), u.3)
    ]
