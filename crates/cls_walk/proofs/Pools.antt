-- The pool is between the bounds, and so they tell where there are too many terms.
use Rattle.std.proofs.Common.{◌≡◌, ℕ, ◌<◌, ◌≤◌, List, [], ◌∷◌, ◌++◌, length, map, refl, sym, ap, ◌∙◌, subst, inl, inr, arith, length-append}
use Rattle.std.specs.Prelude.{◌⊎◌, ◌↔◌, nat_le, if◌then◌else◌, Option, None, Some, IfSome}
use Rattle.std.proofs.lemmas.Bool.{cases_lt}
use Rattle.std.proofs.lemmas.Bool.Decides.{nat_tests}
use Rattle.cls_base.specs.Terms.{Applicative, size_of, Before}
use Rattle.cls_base.specs.declared.rule.Rule.{Rule}
use Rattle.cls_base.specs.Pages.{Request, IsDue}
use Rattle.cls_base.specs.Lists.{AreDistinct}
use Rattle.cls_base.specs.Pools.{IsPooled, IsEnough, IsDecidingSize}
use Rattle.cls_enum.specs.Candidates.{over, IsInCell}
use Rattle.cls_enum.specs.Members.{IsIn}
use Rattle.cls_enum.specs.States.{IsTerm}
use Rattle.cls_enum.proofs.Counting.{no_more_than, once-append}
use Rattle.cls_enum.proofs.Members.{in_from, in_to, in_over, over_in, in_map, in_cases, in_left, in_right}
use Rattle.cls_walk.specs.Counts.{total_below, up_below, lo_below}
use Rattle.cls_walk.specs.Orders.{IsOrdered}
use Rattle.cls_walk.specs.Totals.{total_made, total_held, total_due, cursor_size}
use Rattle.cls_walk.specs.Laws.{PoolIsBetween, IsRefused, IsAccepted}
use Rattle.cls_walk.proofs.Counts.{chosen, chosen_both, cell_below, once-below, most-below, exact-below}
use Rattle.cls_walk.proofs.Lists.{once-map, once-over, length-over_most, length-over_least}
use Rattle.cls_walk.proofs.Sure.{least-below}

pub map_in : {A B : Type 0} (f : A → B) (xs : List A) (x : A) → IsIn xs x → IsIn (map f xs) (f x)
map_in f [] x i = absurd i
map_in f (y ∷ xs) x (inl p) = inl (ap f p)
map_in f (y ∷ xs) x (inr i) = inr (map_in f xs x i)

-- the terms with their node
abbrev pub Pair : Type 0
Pair = ℕ × Applicative

abbrev pub tagged : ℕ → List Applicative → List Pair
tagged n es = map (λ e. (n, e)) es

pub length-tagged : (n : ℕ) (es : List Applicative) → length (tagged n es) ≡ length es
length-tagged n [] = refl
length-tagged n (e ∷ es) = omega (arith, length-tagged n es)

pub in_tagged : (n : ℕ) (es : List Applicative) (p : Pair) → IsIn (tagged n es) p → (n ≡ p.0) × IsIn es p.1
in_tagged n es p i =
    let r = in_map (λ (e : Applicative). (n, e)) es p i in
    let P : Applicative → Type 0 = λ e. IsIn es e in
    (ap (λ (q : Pair). q.0) r.2, subst P (ap (λ (q : Pair). q.1) r.2) r.1)

pub tagged-once : (n : ℕ) (es : List Applicative) → AreDistinct es → AreDistinct (tagged n es)
tagged-once n es h = once-map (λ (e : Applicative). (n, e)) es (λ e f p. ap (λ (q : Pair). q.1) p) h

cursor-from : (cost : ℕ → ℕ) (o : Option Applicative) (e : Applicative) → IfSome o (λ a. Before cost a e) → cursor_size cost o ≤ size_of cost e
cursor-from cost None e h = omega arith
cursor-from cost (Some a) e (inl l) = omega arith
cursor-from cost (Some a) e (inr l) = (let z = l.0 in omega arith)

module _ (book : List (List (Rule ℕ))) (r : Request) (positive : (x : ℕ) → 1 ≤ r.cost x) (known : ℕ) where
  abbrev cell : ℕ → ℕ → List Applicative
  cell = cell_below book r.cost known

  abbrev up : ℕ → ℕ → ℕ
  up = up_below book r.cost known

  abbrev lo : ℕ → ℕ → ℕ
  lo = lo_below book r.cost known

  exact : (t : ℕ) → t < known → (n : ℕ) (e : Applicative) → IsIn (cell t n) e ↔ IsInCell book r.cost n t e
  exact = exact-below book r.cost positive known

  -- all that are made
  abbrev of_size : ℕ → List Pair
  of_size t = over (length book) (λ n. tagged n (cell t n))

  abbrev smaller : ℕ → List Pair
  smaller s = over s of_size

  abbrev held : ℕ → List Pair
  held s = smaller s ++ tagged 0 (cell s 0)

  in_tag : (t n : ℕ) (p : Pair) → t < known → IsIn (tagged n (cell t n)) p → (n ≡ p.0) × IsInCell book r.cost n t p.1
  in_tag t n p l i = let q = in_tagged n (cell t n) p i in (q.0, (exact t l n p.1).0 q.1)

  in_size : (t : ℕ) (p : Pair) → t < known → IsIn (of_size t) p → (p.0 < length book) × IsInCell book r.cost p.0 t p.1
  in_size t p l i =
      let q = in_over (length book) (λ n. tagged n (cell t n)) p i in
      let c = in_tag t q.0 p l q.2 in
      let P : ℕ → Type 0 = λ n. (n < length book) × IsInCell book r.cost n t p.1 in
      subst P c.0 (q.1, c.1)

  size_in : (t : ℕ) (p : Pair) → t < known → p.0 < length book → IsInCell book r.cost p.0 t p.1 → IsIn (of_size t) p
  size_in t p l m c = over_in (length book) (λ n. tagged n (cell t n)) p p.0 m (map_in (λ (e : Applicative). (p.0, e)) (cell t p.0) p.1 ((exact t l p.0 p.1).1 c))

  in_smaller : (s : ℕ) (p : Pair) → s ≤ known → IsIn (smaller s) p → (p.0 < length book) × IsInCell book r.cost p.0 (size_of r.cost p.1) p.1 × (size_of r.cost p.1 < s)
  in_smaller s p l i =
      let q = in_over s of_size p i in
      let c = in_size q.0 p (let z = q.1 in omega arith) q.2 in
      let z = c.1.1 in
      (c.0, (c.1.0, refl, c.1.2), (let y = q.1 in omega arith))

  smaller_in : (s : ℕ) (p : Pair) → s ≤ known → p.0 < length book → IsInCell book r.cost p.0 (size_of r.cost p.1) p.1 → size_of r.cost p.1 < s → IsIn (smaller s) p
  smaller_in s p l m c z = over_in s of_size p (size_of r.cost p.1) z (size_in (size_of r.cost p.1) p (omega arith) m c)

  size-once : (t : ℕ) → t < known → AreDistinct (of_size t)
  size-once t l = once-over (λ n. tagged n (cell t n)) (length book)
      (λ n m. tagged-once n (cell t n) (once-below book r.cost known t n))
      (λ n m p k j x y. (in_tag t n p l x).0 ∙ sym (in_tag t m p l y).0)

  smaller-once : (s : ℕ) → s ≤ known → AreDistinct (smaller s)
  smaller-once s l = once-over of_size s
      (λ t m. size-once t (omega arith))
      (λ t u p m k x y. sym (in_size t p (omega arith) x).1.1 ∙ (in_size u p (omega arith) y).1.1)

  held-once : (s : ℕ) → s < known → AreDistinct (held s)
  held-once s l = once-append (smaller s) (tagged 0 (cell s 0)) (smaller-once s (omega arith)) (tagged-once 0 (cell s 0) (once-below book r.cost known s 0))
      (λ p i j. let a = (in_smaller s p (omega arith) i).2 in let b = (in_tag s 0 p l j).1.1 in omega arith)

  held-exact : (s : ℕ) → s < known → 0 < length book → (p : Pair) → IsIn (held s) p ↔ IsPooled book r.cost s p
  held-exact s l some p = (
    (λ i. elim (in_cases (smaller s) (tagged 0 (cell s 0)) p i) [
      | inl j ↦ (let q = in_smaller s p (omega arith) j in record { node = q.0; generated = q.1.0; short = q.1.2; sized = inl q.2 })
      | inr j ↦ (
          let q = in_tag s 0 p l j in
          let P : ℕ → Type 0 = λ n. (n < length book) × IsInCell book r.cost n s p.1 × (n ≡ 0) in
          let c = subst P q.0 (some, q.1, refl) in
          record { node = c.0; generated = c.1.0; short = c.1.2; sized = inr (c.2, c.1.1) })
    ]),
    (λ m. elim m.sized [
      | inl z ↦ in_left (smaller s) (tagged 0 (cell s 0)) p (smaller_in s p (omega arith) m.node (m.generated, refl, m.short) z)
      | inr z ↦ (
          let y : p.0 ≡ 0 = z.0 in
          let P : ℕ → Type 0 = λ n. IsInCell book r.cost n s p.1 in
          let Q : Pair → Type 0 = λ q. IsIn (tagged 0 (cell s 0)) q in
          let c = (exact s l 0 p.1).1 (subst P y (m.generated, z.1, m.short)) in
          let d : (0, p.1) ≡ p = λ i. (sym y i, p.1) in
          in_right (smaller s) (tagged 0 (cell s 0)) p (subst Q d (map_in (λ (e : Applicative). (0, e)) (cell s 0) p.1 c)))
    ]),
  )

  smaller-most : (s : ℕ) → length (smaller s) ≤ total_made up (length book) s
  smaller-most s = length-over_most of_size s (λ t. total_below (length book) (λ n. up t n)) (λ t l.
      length-over_most (λ n. tagged n (cell t n)) (length book) (λ n. up t n) (λ n m. omega (arith, length-tagged n (cell t n), most-below book r.cost known t n)))

  held-most : (s : ℕ) → length (held s) ≤ total_held up (length book) s
  held-most s = omega (arith, smaller-most s, length-append (smaller s) (tagged 0 (cell s 0)), length-tagged 0 (cell s 0), most-below book r.cost known s 0)

  held-least : (s : ℕ) → IsOrdered book → total_held lo (length book) s ≤ length (held s)
  held-least s ordered =
      let a = length-over_least of_size s (λ t. total_below (length book) (λ n. lo t n)) (λ t l.
      length-over_least (λ n. tagged n (cell t n)) (length book) (λ n. lo t n) (λ n m. omega (arith, length-tagged n (cell t n), least-below book r.cost positive ordered known t n))) in
      omega (arith, a, length-append (smaller s) (tagged 0 (cell s 0)), length-tagged 0 (cell s 0), least-below book r.cost positive ordered known s 0)

  pub between : 0 < length book → IsOrdered book → (s : ℕ) → s < known → PoolIsBetween book r known s
  between some ordered s l = (
    length (held s),
    (
      held s,
      held-once s l,
      (λ p. let x = held-exact s l some p in ((λ c. x.0 (in_from (held s) p c)), (λ m. in_to (held s) p (x.1 m)))),
      refl,
    ),
    held-least s ordered,
    held-most s,
  )

  abbrev Due : Applicative → Type 0
  Due e = IsDue (IsTerm book r) r e

  abbrev starts : ℕ → List Applicative
  starts s = over s (λ t. if nat_le (cursor_size r.cost r.after) t then cell t 0 else [])

  starts-most : (s : ℕ) → length (starts s) ≤ total_due up (cursor_size r.cost r.after) s
  starts-most s = length-over_most (λ t. if nat_le (cursor_size r.cost r.after) t then cell t 0 else []) s (λ t. if nat_le (cursor_size r.cost r.after) t then up t 0 else 0) (λ t l.
      chosen_both (λ (es : List Applicative) (k : ℕ). length es ≤ k) (nat_le (cursor_size r.cost r.after) t) (cell t 0) [] (up t 0) 0 (λ p. most-below book r.cost known t 0) (λ p. omega arith))

  -- a due term is among them
  due-in : (s : ℕ) (e : Applicative) → s ≤ known → Due e → size_of r.cost e < s → IsIn (starts s) e
  due-in s e l d m =
      let z = cursor-from r.cost r.after e d.later in
      over_in s (λ t. if nat_le (cursor_size r.cost r.after) t then cell t 0 else []) e (size_of r.cost e) m
      (chosen (λ (es : List Applicative). IsIn es e) (nat_le (cursor_size r.cost r.after) (size_of r.cost e)) (cell (size_of r.cost e) 0) []
      (λ p. (exact (size_of r.cost e) (omega arith) 0 e).1 (d.typed, refl, d.short))
      (λ p. absurd (grind (arith, nat_tests))))

  -- no page is full below s
  none-enough : (s : ℕ) → s ≤ known → total_due up (cursor_size r.cost r.after) s ≤ r.take → (t : ℕ) → t < s → IsEnough Due r.cost r.take t → ⊥
  none-enough s l few t m q =
      let a = no_more_than q.0 (starts s) q.1 (λ e i. let d = q.2 e (in_to q.0 e i) in let z = d.1 in due-in s e l d.0 (omega arith)) in
      let b = q.3 in
      omega (arith, a, b, starts-most s)

  -- the deciding size is no less than s, or no greater
  at-least : (s d : ℕ) → ((t : ℕ) → t < s → IsEnough Due r.cost r.take t → ⊥) → s ≤ r.max → IsDecidingSize Due r.cost r.take r.max d → s ≤ d
  at-least s d f l h = elim (cases_lt d s) [
    | inl m ↦ absurd (elim h.enough_or_all [ inl q ↦ f d m q | inr p ↦ omega arith ])
    | inr m ↦ m
  ]

  at-most : (s d : ℕ) → IsEnough Due r.cost r.take s ⊎ (s ≡ r.max) → IsDecidingSize Due r.cost r.take r.max d → d ≤ s
  at-most s d f h = elim (cases_lt s d) [
    | inl m ↦ absurd (elim f [ inl q ↦ h.none_less s m q | inr p ↦ (let y = h.within in omega arith) ])
    | inr m ↦ m
  ]

  made-later : (s d : ℕ) (p : Pair) → s ≤ d → IsPooled book r.cost s p → IsPooled book r.cost d p
  made-later s d p l h = record {
    node = h.node;
    generated = h.generated;
    short = h.short;
    sized = elim h.sized [
      | inl m ↦ inl (omega arith)
      | inr m ↦ elim (cases_lt s d) [ inl z ↦ inl (let y = m.1 in omega arith) | inr z ↦ inr (m.0, (let y = m.1 in omega arith)) ]
    ];
  }

  pub refused : 0 < length book → IsOrdered book → (s : ℕ) → s < known → s ≤ r.max → (pool : ℕ) → IsRefused book r known s pool
  refused some ordered s l m pool few over d n h q =
      let a = at-least s d (none-enough s (omega arith) few) m h in
      let b = no_more_than (held s) q.0 (held-once s l) (λ p i. in_from q.0 p ((q.2 p).1 (made-later s d p a ((held-exact s l some p).0 i)))) in
      let c = q.3 in
      omega (arith, b, c, over, held-least s ordered)

  pub accepted : 0 < length book → (s : ℕ) → s < known → (pool : ℕ) → IsAccepted book r known s pool
  accepted some s l pool known_there within d n h q =
      let a = at-most s d known_there h in
      let b = no_more_than q.0 (held s) q.1 (λ p i. (held-exact s l some p).1 (made-later d s p a ((q.2 p).0 (in_to q.0 p i)))) in
      let c = q.3 in
      omega (arith, b, c, within, held-most s)
