-- Where the rules of each node are apart, the lower bounds are the upper ones.
use Rattle.std.proofs.Common.{◌≡◌, ℕ, zero, suc, ◌+◌, ◌<◌, ◌≤◌, max, List, [], ◌∷◌, length, refl, sym, ap, ◌∙◌, subst, inl, inr, arith, Bool, true, false}
use Rattle.std.specs.Prelude.{◌⊎◌, nat_eq, nat_le, nat_lt, ◌&&◌}
use Rattle.std.proofs.lemmas.Bool.Decides.{nat_tests}
use Rattle.cls_base.specs.declared.rule.Rule.{Rule}
use Rattle.cls_base.specs.declared.rule.Rule.TheVariants.{Head, Any}
use Rattle.cls_base.specs.Languages.{rules_at}
use Rattle.cls_enum.specs.Members.{IsIn}
use Rattle.cls_walk.specs.Apart.{AreApartFrom, AreApart, AreAllApart}
use Rattle.cls_walk.specs.Counts.{HeadRule, run, runs, greatest, heads_of, pairs_of, head_ways, head_ways_if, pair_ways, all_ways, sure_ways, up_to_64, up_below, lo_below}
use Rattle.cls_walk.specs.Orders.{NotAfter, InOrder, IsOrdered}
use Rattle.cls_walk.specs.Tables.{capped, number_at, Holds}
use Rattle.cls_walk.proofs.Counts.{chosen, chosen_both}
use Rattle.cls_walk.proofs.RefusalSteps.{up-known}

-- the head rule is of a later component than x, or of x with k arguments or more
abbrev IsFrom : ℕ → ℕ → HeadRule → Type 0
IsFrom x k h = (x < h.0) ⊎ ((x ≡ h.0) × (k ≤ length h.1))

-- head rules that rise from there
abbrev RiseFrom : ℕ → ℕ → List HeadRule → Type 0
RiseFrom x k [] = Unit {0}
RiseFrom x k (h ∷ hs) = IsFrom x k h × RiseFrom h.0 (length h.1 + 1) hs

apart-rise : (x k : ℕ) (pair : Bool) (m : ℕ) (rs : List (Rule ℕ)) → AreApartFrom x k pair m rs → RiseFrom x k (heads_of rs)
apart-rise x k pair m [] a = tt
apart-rise x k pair m (Head y ns ∷ rs) a = (a.0, apart-rise y (length ns + 1) pair (max m (length ns)) rs a.2)
apart-rise x k pair m (Any l r ∷ rs) a = apart-rise x k true m rs a.2

from-later : (x k : ℕ) (h g : HeadRule) → IsFrom x k h → IsFrom h.0 (length h.1 + 1) g → IsFrom x k g
from-later x k h g (inl l) (inl m) = inl (omega arith)
from-later x k h g (inl l) (inr m) = inl (let z = m.0 in omega arith)
from-later x k h g (inr l) (inl m) = inl (let z = l.0 in omega arith)
from-later x k h g (inr l) (inr m) = inr (l.0 ∙ m.0, (let a = l.1 in let b = m.1 in omega arith))

rise-later : (x k : ℕ) (hs : List HeadRule) (g : HeadRule) → RiseFrom x k hs → IsIn hs g → IsFrom x k g
rise-later x k [] g r i = absurd i
rise-later x k (h ∷ hs) g r (inl p) = let P : HeadRule → Type 0 = λ z. IsFrom x k z in subst P p r.0
rise-later x k (h ∷ hs) g r (inr i) = from-later x k h g r.0 (rise-later h.0 (length h.1 + 1) hs g r.1 i)

from-not-after : (h g : HeadRule) → IsFrom h.0 (length h.1 + 1) g → NotAfter h g
from-not-after h g (inl l) = inl l
from-not-after h g (inr l) = inr (l.0, (let z = l.1 in omega arith))

rise-order : (x k : ℕ) (hs : List HeadRule) → RiseFrom x k hs → InOrder hs
rise-order x k [] r = tt
rise-order x k (h ∷ hs) r = ((λ g i. from-not-after h g (rise-later h.0 (length h.1 + 1) hs g r.1 i)), rise-order h.0 (length h.1 + 1) hs r.1)

pub apart-ordered : (book : List (List (Rule ℕ))) → AreAllApart book → IsOrdered book
apart-ordered book a n = rise-order 0 0 (heads_of (rules_at book n)) (apart-rise 0 0 false 0 (rules_at book n) (a n))

-- what a list comes to
abbrev total_of : {A : Type 0} → (A → ℕ) → List A → ℕ
total_of f [] = 0
total_of f (x ∷ xs) = f x + total_of f xs

other-kind : (x k : ℕ) (h : HeadRule) → IsFrom x (k + 1) h → (nat_eq x h.0 && nat_eq k (length h.1)) ≡ true → ⊥
other-kind x k h (inl l) p = grind (arith, nat_tests)
other-kind x k h (inr l) p = let z = l.1 in grind (arith, nat_tests)

-- each run is one head rule
run-total : (f : HeadRule → ℕ) (x k b : ℕ) (hs : List HeadRule) → RiseFrom x (k + 1) hs → run f x k b hs ≡ b + total_of f hs
run-total f x k b [] r = omega arith
run-total f x k b (h ∷ hs) r = chosen (λ (n : ℕ). n ≡ b + (f h + total_of f hs)) (nat_eq x h.0 && nat_eq k (length h.1))
    (run f x k (max b (f h)) hs) (b + run f h.0 (length h.1) (f h) hs)
    (λ p. absurd (other-kind x k h r.0 p))
    (λ p. let e = run-total f h.0 (length h.1) (f h) hs r.1 in ap (λ (n : ℕ). b + n) e)

runs-total : (f : HeadRule → ℕ) (hs : List HeadRule) → RiseFrom 0 0 hs → runs f hs ≡ total_of f hs
runs-total f [] r = refl
runs-total f (h ∷ hs) r = chosen (λ (n : ℕ). n ≡ f h + total_of f hs) (nat_eq 0 h.0 && nat_eq 0 (length h.1))
    (run f 0 0 (max 0 (f h)) hs) (0 + run f h.0 (length h.1) (f h) hs)
    (λ p.
    let y : h.0 ≡ 0 = grind (arith, nat_tests) in
    let z : length h.1 ≡ 0 = grind (arith, nat_tests) in
    let P : ℕ → ℕ → Type 0 = λ n m. RiseFrom n (m + 1) hs in
    let q : P 0 0 = subst (λ (n : ℕ). P n 0) y (subst (λ (m : ℕ). P h.0 m) z r.1) in
    let e = run-total f 0 0 (max 0 (f h)) hs q in
    omega (arith, e))
    (λ p. let e = run-total f h.0 (length h.1) (f h) hs r.1 in omega (arith, e))

module _ (count : ℕ → ℕ → ℕ) (cost : ℕ → ℕ) (s : ℕ) where
  abbrev own : HeadRule → ℕ
  own = head_ways count cost s

  abbrev alone : HeadRule → ℕ
  alone = head_ways_if count cost s true

  abbrev pairs : ℕ × ℕ → ℕ
  pairs = pair_ways count s

  all-total : (rs : List (Rule ℕ)) → all_ways count cost s rs ≡ total_of own (heads_of rs) + total_of pairs (pairs_of rs)
  all-total [] = refl
  all-total (Head x ns ∷ rs) = let e = all-total rs in omega (arith, e)
  all-total (Any l m ∷ rs) = let e = all-total rs in omega (arith, e)

  alone-less : (h : HeadRule) → alone h ≤ own h
  alone-less h = chosen (λ (n : ℕ). n ≤ own h) (true && nat_lt 0 (length h.1)) 0 (own h) (λ p. omega arith) (λ p. omega arith)

  alone-fewer : (hs : List HeadRule) → total_of alone hs ≤ total_of own hs
  alone-fewer [] = omega arith
  alone-fewer (h ∷ hs) = let a = alone-less h in let b = alone-fewer hs in omega (arith, a, b)

  alone-leaf : (h : HeadRule) → length h.1 ≡ 0 → alone h ≡ own h
  alone-leaf h z = chosen (λ (n : ℕ). n ≡ own h) (true && nat_lt 0 (length h.1)) 0 (own h) (λ p. absurd (grind (arith, nat_tests))) (λ p. refl)

  -- behind a pair of nodes there is no other, and no head rule with arguments
  behind-pair : (x k m : ℕ) (rs : List (Rule ℕ)) → AreApartFrom x k true m rs → (pairs_of rs ≡ []) × (total_of alone (heads_of rs) ≡ total_of own (heads_of rs))
  behind-pair x k m [] a = (refl, refl)
  behind-pair x k m (Head y ns ∷ rs) a =
      let h = behind-pair y (length ns + 1) (max m (length ns)) rs a.2 in
      let z : length ns ≡ 0 = elim a.1 [ inl p ↦ absurd (cc) | inr p ↦ p ] in
      let e = alone-leaf (y, ns) z in
      let d = h.1 in
      (h.0, omega (arith, d, e))
  behind-pair x k m (Any l r ∷ rs) a = absurd (let p = a.0 in cc)

  -- there is no pair of nodes, or one, and no head rule has arguments
  abbrev IsOne : ℕ → List (Rule ℕ) → Type 0
  IsOne m rs = (pairs_of rs ≡ []) ⊎ ((m ≡ 0) × (greatest pairs (pairs_of rs) ≡ total_of pairs (pairs_of rs)) × (total_of alone (heads_of rs) ≡ total_of own (heads_of rs)))

  one-pair : (x k m : ℕ) (rs : List (Rule ℕ)) → AreApartFrom x k false m rs → IsOne m rs
  one-pair x k m [] a = inl refl
  one-pair x k m (Head y ns ∷ rs) a = elim (one-pair y (length ns + 1) (max m (length ns)) rs a.2) [
    | inl p ↦ inl p
    | inr h ↦
        let w = h.0 in
        let d = h.2 in
        let z : length ns ≡ 0 = omega (arith, w) in
        let e = alone-leaf (y, ns) z in
        inr (omega (arith, w), h.1, omega (arith, d, e))
  ]
  one-pair x k m (Any l r ∷ rs) a =
      let h = behind-pair x k m rs a.2 in
      let d = h.1 in
      let e : greatest pairs (pairs_of rs) ≡ 0 = ap (greatest pairs) h.0 in
      let f : total_of pairs (pairs_of rs) ≡ 0 = ap (total_of pairs) h.0 in
      inr (a.1, omega (arith, e, f), d)

  sure-all : (rs : List (Rule ℕ)) → AreApart rs → sure_ways count cost s rs ≡ all_ways count cost s rs
  sure-all rs a =
      let r = apart-rise 0 0 false 0 rs a in
      let p = runs-total own (heads_of rs) r in
      let q = runs-total alone (heads_of rs) r in
      let t = all-total rs in
      let l = alone-fewer (heads_of rs) in
      elim (one-pair 0 0 0 rs a) [
        | inl e ↦
            let d : greatest pairs (pairs_of rs) ≡ 0 = ap (greatest pairs) e in
            let f : total_of pairs (pairs_of rs) ≡ 0 = ap (total_of pairs) e in
            omega (arith, p, q, t, l, d, f)
        | inr h ↦ (let d = h.1 in let f = h.2 in omega (arith, p, q, t, l, d, f))
      ]

module _ (book : List (List (Rule ℕ))) (cost : ℕ → ℕ) (apart : AreAllApart book) where
  lower-upper : (s : ℕ) → s ≤ 65 → (t n : ℕ) → lo_below book cost s t n ≡ up_below book cost s t n
  lower-upper zero l t n = refl
  lower-upper (suc s) l t n = chosen_both (λ (a b : ℕ). a ≡ b) (nat_eq t s)
      (up_to_64 s (sure_ways (lo_below book cost s) cost s (rules_at book n))) (lo_below book cost s t n)
      (all_ways (up_below book cost s) cost s (rules_at book n)) (up_below book cost s t n)
      (λ p. chosen (λ (k : ℕ). k ≡ all_ways (up_below book cost s) cost s (rules_at book n)) (nat_le s 64) (sure_ways (lo_below book cost s) cost s (rules_at book n)) 0
      (λ q.
      let e : lo_below book cost s ≡ up_below book cost s = λ i t n. lower-upper s (omega arith) t n i in
      ap (λ (c : ℕ → ℕ → ℕ). sure_ways c cost s (rules_at book n)) e ∙ sure-all (up_below book cost s) cost s (rules_at book n) (apart n))
      (λ q. absurd (grind (arith, nat_tests))))
      (λ p. lower-upper s (omega arith) t n)

  -- the upper bounds of a table are its lower ones
  pub exact-at : (known s : ℕ) (table : List (List ℕ)) → Holds (up_below book cost known) known table → s < known → s ≤ 64 → (n : ℕ) → number_at table s n ≡ capped (lo_below book cost (s + 1) s n)
  exact-at known s table h l m n = h.1 s n ∙ ap capped (up-known book cost known s n l ∙ sym (lower-upper (s + 1) (omega arith) s n))
