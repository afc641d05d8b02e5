-- What a state says of the page and of the pool.
use Rattle.std.proofs.Common.{◌≡◌, ℕ, ◌+◌, ◌<◌, ◌≤◌, List, [], ◌∷◌, length, take, refl, sym, subst, inl, inr, arith}
use Rattle.std.specs.Prelude.{◌⊎◌, ◌↔◌, nat_lt, Result, Ok, Err, IfErr}
use Rattle.std.proofs.lemmas.Bool.{cases_lt}
use Rattle.cls_base.specs.Terms.{Applicative, size_of}
use Rattle.cls_base.specs.declared.rule.Rule.{Rule}
use Rattle.cls_base.specs.Pages.{Request, IsDue, Rises, IsPage}
use Rattle.cls_base.specs.Pools.{IsPooled, IsEnough, IsDecidingSize}
use Rattle.cls_base.specs.Lists.{AreDistinct}
use Rattle.cls_term.proofs.Orders.{Before-irrefl}
use Rattle.cls_enum.specs.Members.{IsIn}
use Rattle.cls_enum.specs.States.{IsMade, IsState, IsTerm, ExceedsPool, FitsPool, IsOverfullAt}
use Rattle.cls_enum.proofs.Counting.{no_more_than}
use Rattle.cls_enum.proofs.Members.{in_from, in_to, in-take}
use Rattle.cls_enum.proofs.PageLaws.{rises-tail, rises-before, rises-take, length-take_all, first_are_page}

pub rising-once : (cost : ℕ → ℕ) (es : List Applicative) → Rises cost es → AreDistinct es
rising-once cost [] h = tt
rising-once cost (e ∷ es) h = (
  (λ c. Before-irrefl cost e (rises-before cost e e es h (in_from es e c))),
  rising-once cost es (rises-tail cost e es h),
)

module _ (book : List (List (Rule ℕ))) (r : Request) where
  pub none-at_first : (ps : List (ℕ × Applicative)) (due : List Applicative) (n : ℕ) → IsState book r 0 0 ps due → length due ≤ n
  none-at_first ps [] n h = omega arith
  none-at_first ps (e ∷ es) n h =
      let q = (h.listed e).0 (0, omega arith, refl) in
      elim q.1 [ inl l ↦ absurd (omega arith) | inr l ↦ absurd (let m = l.0 in omega arith) ]

  made-next : (s i : ℕ) (p : ℕ × Applicative) → IsMade book r s i p → IsMade book r (s + 1) 0 p
  made-next s i p h = record { node = h.node; generated = h.generated; short = h.short; so_far = elim h.so_far [ inl l ↦ inl (omega arith) | inr l ↦ inl (let m = l.1 in omega arith) ] }

  next-made : (s : ℕ) (p : ℕ × Applicative) → IsMade book r (s + 1) 0 p → IsMade book r s (length book) p
  next-made s p h = record {
    node = h.node;
    generated = h.generated;
    short = h.short;
    so_far = elim h.so_far [
      | inl l ↦ elim (cases_lt (size_of r.cost p.1) s) [ inl m ↦ inl m | inr m ↦ inr (h.node, omega arith) ]
      | inr l ↦ absurd (let m = l.0 in omega arith)
    ];
  }

  -- where the terms of all nodes are made, those of the next size come
  pub state-next : (s i : ℕ) (ps : List (ℕ × Applicative)) (due : List Applicative) → 0 < length book → i ≡ length book → IsState book r s i ps due → IsState book r (s + 1) 0 ps due
  state-next s i ps due l e h = record {
    made = λ p. (
      (λ c. made-next s i p ((h.made p).0 c)),
      (λ m. (h.made p).1 (let P : ℕ → Type 0 = λ j. IsMade book r s j p in subst P (sym e) (next-made s p m))),
    );
    once = h.once;
    rises = h.rises;
    listed = λ x. (
      (λ c. let q = (h.listed x).0 c in (q.0, elim q.1 [ inl m ↦ inl (omega arith) | inr m ↦ inl (let z = m.1 in omega arith) ])),
      (λ q. (h.listed x).1 (
        q.0,
        elim q.1 [
          | inl m ↦ elim (cases_lt (size_of r.cost x) s) [ inl z ↦ inl z | inr z ↦ inr (omega arith, omega arith) ]
          | inr m ↦ absurd (let z = m.0 in omega arith)
        ],
      )),
    );
  }

  pub too_much-next : (s i pool : ℕ) → IsOverfullAt book r s i pool → IsOverfullAt book r (s + 1) 0 pool
  too_much-next s i pool h = (h.0, h.1, (λ p c. made-next s i p (h.2 p c)), h.3)

  listed-to : (s : ℕ) (ps : List (ℕ × Applicative)) (due : List Applicative) (e : Applicative) → IsState book r s 1 ps due → IsIn due e ↔ (IsDue (IsTerm book r) r e × (size_of r.cost e ≤ s))
  listed-to s ps due e h = (
    (λ i. let q = (h.listed e).0 (in_to due e i) in (q.0, elim q.1 [ inl m ↦ omega arith | inr m ↦ (let z = m.1 in omega arith) ])),
    (λ q. in_from due e ((h.listed e).1 (q.0, elim (cases_lt (size_of r.cost e) s) [ inl m ↦ inl m | inr m ↦ inr (omega arith, (let z = q.1 in omega arith)) ]))),
  )

  pub page-is : (s : ℕ) (ps : List (ℕ × Applicative)) (due : List Applicative) → IsState book r s 1 ps due → 0 < r.take → s ≤ r.max → (r.take < length due) ⊎ (s ≡ r.max) → IsPage (IsTerm book r) r (take r.take due) (nat_lt r.take (length due))
  page-is s ps due h l m d = first_are_page (IsTerm book r) r s due h.rises (λ e. listed-to s ps due e h) l m d

  abbrev Due : Applicative → Type 0
  Due e = IsDue (IsTerm book r) r e

  -- a page can't be full below this size
  none-enough : (due : List Applicative) (t : ℕ) → ((e : Applicative) → Due e → size_of r.cost e ≤ t → IsIn due e) → length due ≤ r.take → IsEnough Due r.cost r.take t → ⊥
  none-enough due t f l q =
      let c = no_more_than q.0 due q.1 (λ e i. let m = q.2 e (in_to q.0 e i) in f e m.0 m.1) in
      let z = q.3 in
      omega arith

  -- none of a smaller size, and none of this size either
  pub few-before : (s : ℕ) (ps : List (ℕ × Applicative)) (due : List Applicative) → IsState book r s 0 ps due → length due ≤ r.take → (t : ℕ) → t < s → IsEnough Due r.cost r.take t → ⊥
  few-before s ps due h l t m = none-enough due t (λ e d z. in_from due e ((h.listed e).1 (d, inl (omega arith)))) l

  pub few-upto : (s : ℕ) (ps : List (ℕ × Applicative)) (due : List Applicative) → IsState book r s 1 ps due → length due ≤ r.take → (t : ℕ) → t < s + 1 → IsEnough Due r.cost r.take t → ⊥
  few-upto s ps due h l t m = none-enough due t (λ e d z. (listed-to s ps due e h).1 (d, omega arith)) l

  -- the deciding size is no less
  at-least : (s d : ℕ) → ((t : ℕ) → t < s → IsEnough Due r.cost r.take t → ⊥) → s ≤ r.max → IsDecidingSize Due r.cost r.take r.max d → s ≤ d
  at-least s d f l h = elim (cases_lt d s) [
    | inl m ↦ absurd (elim h.enough_or_all [ inl q ↦ f d m q | inr p ↦ omega arith ])
    | inr m ↦ m
  ]

  made-later : (s d : ℕ) (p : ℕ × Applicative) → s ≤ d → IsMade book r s 1 p → IsMade book r d 1 p
  made-later s d p l h = record {
    node = h.node;
    generated = h.generated;
    short = h.short;
    so_far = elim h.so_far [
      | inl m ↦ inl (omega arith)
      | inr m ↦ elim (cases_lt s d) [ inl z ↦ inl (let y = m.1 in omega arith) | inr z ↦ inr (m.0, (let y = m.1 in omega arith)) ]
    ];
  }

  pooled-made : (s : ℕ) (p : ℕ × Applicative) → IsPooled book r.cost s p → IsMade book r s 1 p
  pooled-made s p h = record {
    node = h.node;
    generated = h.generated;
    short = h.short;
    so_far = elim h.sized [ inl m ↦ inl m | inr m ↦ inr ((let y = m.0 in omega arith), m.1) ];
  }

  pub made-pooled : (s : ℕ) (p : ℕ × Applicative) → IsMade book r s 1 p ↔ IsPooled book r.cost s p
  made-pooled s p = (
    (λ h. record {
      node = h.node;
      generated = h.generated;
      short = h.short;
      sized = elim h.so_far [ inl m ↦ inl m | inr m ↦ inr ((let y = m.0 in omega arith), m.1) ];
    }),
    pooled-made s p,
  )

  pub enough-is : (s : ℕ) (ps : List (ℕ × Applicative)) (due : List Applicative) → IsState book r s 1 ps due → r.take < length due → IsEnough Due r.cost r.take s
  enough-is s ps due h l = (
    take (r.take + 1) due,
    rising-once r.cost (take (r.take + 1) due) (rises-take r.cost (r.take + 1) due h.rises),
    (λ e c. (listed-to s ps due e h).0 (in-take (r.take + 1) e due (in_from (take (r.take + 1) due) e c))),
    length-take_all (r.take + 1) due (omega arith),
  )

  at-most : (s d : ℕ) (ps : List (ℕ × Applicative)) (due : List Applicative) → IsState book r s 1 ps due → (r.take < length due) ⊎ (s ≡ r.max) → IsDecidingSize Due r.cost r.take r.max d → d ≤ s
  at-most s d ps due h f e = elim (cases_lt s d) [
    | inl m ↦ absurd (elim f [ inl l ↦ e.none_less s m (enough-is s ps due h l) | inr p ↦ (let y = e.within in omega arith) ])
    | inr m ↦ m
  ]

  -- more than the pool are made
  pub over-at : (s pool : ℕ) → IsOverfullAt book r s 1 pool → s ≤ r.max → ((t : ℕ) → t < s → IsEnough Due r.cost r.take t → ⊥) → ExceedsPool book r pool
  over-at s pool h l f d n e q =
      let m = at-least s d f l e in
      let c = no_more_than h.0 q.0 h.1 (λ p i. in_from q.0 p ((q.2 p).1 ((made-pooled d p).0 (made-later s d p m (h.2 p (in_to h.0 p i)))))) in
      let z = q.3 in
      let y = h.3 in
      omega arith

  pub over-next : (s pool : ℕ) → IsOverfullAt book r (s + 1) 0 pool → s < r.max → ((t : ℕ) → t < s + 1 → IsEnough Due r.cost r.take t → ⊥) → ExceedsPool book r pool
  over-next s pool h l f = over-at (s + 1) pool (h.0, h.1, (λ p c. let m = h.2 p c in record { node = m.node; generated = m.generated; short = m.short; so_far = elim m.so_far [ inl z ↦ inl z | inr z ↦ absurd (let y = z.0 in omega arith) ] }), h.3) (omega arith) f

  -- no more than the pool are made
  pub within-at : (s pool : ℕ) (ps : List (ℕ × Applicative)) (due : List Applicative) → IsState book r s 1 ps due → length ps ≤ pool → (r.take < length due) ⊎ (s ≡ r.max) → FitsPool book r pool
  within-at s pool ps due h l f d n e q =
      let m : d ≤ s = at-most s d ps due h f e in
      let c = no_more_than q.0 ps q.1 (λ p i. in_from ps p ((h.made p).1 (made-later d s p m (pooled-made d p ((q.2 p).0 (in_to q.0 p i)))))) in
      let z = q.3 in
      omega arith

pub IfErr-weaker : {T E : Type 0} (x : Result T E) (P Q : E → Type 0) → ((e : E) → P e → Q e) → IfErr x P → IfErr x Q
IfErr-weaker (Ok x) P Q f h = tt
IfErr-weaker (Err e) P Q f h = f e h
