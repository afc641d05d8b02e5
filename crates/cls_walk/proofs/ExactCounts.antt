-- Exact numbers of terms tell the pool, and so the page.
use Rattle.std.proofs.Common.{◌≡◌, ℕ, suc, ◌+◌, ◌<◌, ◌≤◌, List, [], ◌∷◌, ◌++◌, length, map, refl, sym, ap, ◌∙◌, subst, inl, inr, arith, length-append, Bool, true, false}
use Rattle.std.specs.Prelude.{◌⊎◌, ◌↔◌, Contains}
use Rattle.std.proofs.lemmas.Bool.{cases_lt}
use Rattle.cls_base.specs.Languages.{IsGenerated}
use Rattle.cls_base.specs.Lists.{AreDistinct}
use Rattle.cls_base.specs.Pages.{Request, IsDue}
use Rattle.cls_base.specs.Pools.{IsPooled, IsEnough, IsDecidingSize}
use Rattle.cls_base.specs.Terms.{Applicative, size_of, code_of}
use Rattle.cls_base.specs.declared.rule.Rule.{Rule}
use Rattle.cls_enum.specs.Candidates.{IsInCell}
use Rattle.cls_enum.specs.Members.{IsIn}
use Rattle.cls_enum.specs.States.{IsMade, IsOverfullAt, ExceedsPool, FitsPool}
use Rattle.cls_enum.proofs.CellLaws.{costs_something}
use Rattle.cls_enum.proofs.Counting.{no_more_than, once-append}
use Rattle.cls_enum.proofs.Members.{in_from, in_to, in_cases, in_left, in_right}
use Rattle.cls_enum.proofs.StateLaws.{over-at, over-next}
use Rattle.cls_walk.specs.Counts.{AtLeast}
use Rattle.cls_walk.specs.Exact.{CountIs, MadeIs, IsSearched, IsFound}
use Rattle.cls_walk.specs.PageFronts.{IsDueFront, IsDueCode}
use Rattle.cls_walk.specs.Walks.{Lists}
use Rattle.cls_walk.specs.declared.walk.Walk.{Walk}
use Rattle.cls_walk.proofs.Attempts.{due-codes, front-next, front-start, front-still, page-known}
use Rattle.cls_walk.proofs.Counts.{cell_below, once-below, exact-below}
use Rattle.cls_walk.proofs.Pools.{Pair, tagged, length-tagged, in_tagged, tagged-once, map_in}

same-long : (es : List Applicative) → length (map code_of es) ≡ length es
same-long [] = refl
same-long (e ∷ es) = ap suc (same-long es)

module _ (book : List (List (Rule ℕ))) (r : Request) (positive : (x : ℕ) → 1 ≤ r.cost x) where
  -- all terms of a node and size, in a list that has each once
  abbrev cell : ℕ → ℕ → List Applicative
  cell t n = cell_below book r.cost (t + 1) t n

  cell-exact : (t n : ℕ) (e : Applicative) → IsIn (cell t n) e ↔ IsInCell book r.cost n t e
  cell-exact t n e = exact-below book r.cost positive (t + 1) t (omega arith) n e

  cell-once : (t n : ℕ) → AreDistinct (cell t n)
  cell-once t n = once-below book r.cost (t + 1) t n

  cell-long : (t n k : ℕ) → CountIs book r.cost t n k → length (cell t n) ≡ k
  cell-long t n k c =
      let a = no_more_than c.0.0 (cell t n) c.0.1.different (λ e i. (cell-exact t n e).1 (c.0.1.terms e i)) in
      let b = c.1 (cell t n) (record { different = cell-once t n; terms = λ e i. (cell-exact t n e).0 i }) in
      let z = c.0.2 in
      omega (arith, a, b, z)

  -- a term of a node and size
  cell-made : (s i : ℕ) (es : List Applicative) → i < length book → ((e : Applicative) → IsIn es e → IsInCell book r.cost i s e) → (p : Pair) → IsIn (tagged i es) p → IsMade book r s (i + 1) p × (p.0 ≡ i) × (size_of r.cost p.1 ≡ s)
  cell-made s i es l f p j =
      let q = in_tagged i es p j in
      let P : ℕ → Type 0 = λ n. (n < length book) × IsInCell book r.cost n s p.1 in
      let m = subst P q.0 (l, f p.1 q.1) in (
        record { node = m.0; generated = m.1.0; short = m.1.2; so_far = inr (omega (arith, q.0), m.1.1) },
        sym q.0,
        m.1.1,
      )

  still-made : (s i : ℕ) (p : Pair) → IsMade book r s i p → IsMade book r s (i + 1) p
  still-made s i p m = record {
    node = m.node;
    generated = m.generated;
    short = m.short;
    so_far = elim m.so_far [ inl z ↦ inl z | inr z ↦ inr ((let y = z.0 in omega arith), z.1) ];
  }

  -- pairs of the next node aren't made yet
  not-made : (s i : ℕ) (p : Pair) → p.0 ≡ i → size_of r.cost p.1 ≡ s → IsMade book r s i p → ⊥
  not-made s i p e z m = elim m.so_far [ inl l ↦ omega (arith, z, l) | inr l ↦ (let y = l.0 in omega (arith, y, e)) ]

  more-once : (s i : ℕ) (ps : List Pair) (es : List Applicative) → i < length book → AreDistinct ps → ((p : Pair) → Contains ps p → IsMade book r s i p) → AreDistinct es → ((e : Applicative) → IsIn es e → IsInCell book r.cost i s e) → AreDistinct (ps ++ tagged i es)
  more-once s i ps es l once made different f = once-append ps (tagged i es) once (tagged-once i es different) (λ p a b.
      let m = cell-made s i es l f p b in
      not-made s i p m.1 m.2 (made p (in_to ps p a)))

  made-among : (s i : ℕ) (ps : List Pair) (es : List Applicative) → i < length book → ((p : Pair) → Contains ps p → IsMade book r s i p) → ((e : Applicative) → IsIn es e → IsInCell book r.cost i s e) → (p : Pair) → Contains (ps ++ tagged i es) p → IsMade book r s (i + 1) p
  made-among s i ps es l made f p c = elim (in_cases ps (tagged i es) p (in_from (ps ++ tagged i es) p c)) [
    | inl j ↦ still-made s i p (made p (in_to ps p j))
    | inr j ↦ (cell-made s i es l f p j).0
  ]

  tag-in : (i : ℕ) (es : List Applicative) (p : Pair) → i ≡ p.0 → IsIn es p.1 → IsIn (tagged i es) p
  tag-in i es p e j =
      let P : Pair → Type 0 = λ q. IsIn (tagged i es) q in
      let d : (i, p.1) ≡ p = λ k. (e k, p.1) in
      subst P d (map_in (λ (f : Applicative). (i, f)) es p.1 j)

  among-made : (s i : ℕ) (ps : List Pair) → ((p : Pair) → IsMade book r s i p → Contains ps p) → (p : Pair) → IsMade book r s (i + 1) p → Contains (ps ++ tagged i (cell s i)) p
  among-made s i ps all p m =
      let old : IsMade book r s i p → Contains (ps ++ tagged i (cell s i)) p = λ h. in_to (ps ++ tagged i (cell s i)) p (in_left ps (tagged i (cell s i)) p (in_from ps p (all p h))) in
      elim m.so_far [
        | inl z ↦ old (record { node = m.node; generated = m.generated; short = m.short; so_far = inl z })
        | inr z ↦ elim (cases_lt p.0 i) [
          | inl b ↦ old (record { node = m.node; generated = m.generated; short = m.short; so_far = inr (b, z.1) })
          | inr b ↦
              let e : i ≡ p.0 = (let y = z.0 in omega (arith, y, b)) in
              let P : ℕ → Type 0 = λ n. IsGenerated book n p.1 in
              let c = (cell-exact s i p.1).1 (subst P (sym e) m.generated, z.1, m.short) in
              in_to (ps ++ tagged i (cell s i)) p (in_right ps (tagged i (cell s i)) p (tag-in i (cell s i) p e c))
        ]
      ]

  -- before size 1 there is nothing
  pub made-start : MadeIs book r 1 0 0
  made-start = (
    [],
    tt,
    (λ p. (
      (λ c. absurd (in_from [] p c)),
      (λ m. absurd (elim m.so_far [
        | inl z ↦ (let y = costs_something r.cost positive p.1 in omega (arith, y, z))
        | inr z ↦ (let y = z.0 in omega (arith, y))
      ])),
    )),
    refl,
  )

  -- and with the terms of one more node
  pub made-more : (s i n k : ℕ) → i < length book → MadeIs book r s i n → CountIs book r.cost s i k → MadeIs book r s (i + 1) (n + k)
  made-more s i n k l h c =
      let f : (e : Applicative) → IsIn (cell s i) e → IsInCell book r.cost i s e = λ e j. (cell-exact s i e).0 j in
      let made : (p : Pair) → Contains h.0 p → IsMade book r s i p = λ p m. (h.2 p).0 m in
      let a = h.3 in (
        h.0 ++ tagged i (cell s i),
        more-once s i h.0 (cell s i) l h.1 made (cell-once s i) f,
        (λ p. (made-among s i h.0 (cell s i) l made f p, among-made s i h.0 (λ q m. (h.2 q).1 m) p)),
        omega (arith, a, length-append h.0 (tagged i (cell s i)), length-tagged i (cell s i), cell-long s i k c),
      )

  -- with more terms of one more node than there may be, there are too many
  pub over-more : (s i n left pool : ℕ) → i < length book → MadeIs book r s i n → AtLeast book r.cost s i (left + 1) → pool ≤ n + left → IsOverfullAt book r s (i + 1) pool
  over-more s i n left pool l h c over =
      let f = c.1.terms in
      let made : (p : Pair) → Contains h.0 p → IsMade book r s i p = λ p m. (h.2 p).0 m in
      let a = h.3 in
      let b = c.2 in (
        h.0 ++ tagged i c.0,
        more-once s i h.0 c.0 l h.1 made c.1.different f,
        (λ p m. made-among s i h.0 c.0 l made f p m),
        omega (arith, a, b, over, length-append h.0 (tagged i c.0), length-tagged i c.0),
      )

  -- where the terms of all nodes are made, those of the next size come
  pub made-next : (s i n : ℕ) → i ≡ length book → MadeIs book r s i n → MadeIs book r (s + 1) 0 n
  made-next s i n e h = (
    h.0,
    h.1,
    (λ p. (
      (λ c. let m = (h.2 p).0 c in record {
        node = m.node;
        generated = m.generated;
        short = m.short;
        so_far = elim m.so_far [ inl z ↦ inl (omega (arith, z)) | inr z ↦ inl (let y = z.1 in omega (arith, y)) ];
      }),
      (λ m. (h.2 p).1 (record {
        node = m.node;
        generated = m.generated;
        short = m.short;
        so_far = elim m.so_far [
          | inl z ↦ elim (cases_lt (size_of r.cost p.1) s) [
            | inl y ↦ inl y
            | inr y ↦ inr ((let w = m.node in omega (arith, w, e)), omega (arith, z, y))
          ]
          | inr z ↦ absurd (let y = z.0 in omega (arith, y))
        ];
      })),
    )),
    h.3,
  )

  abbrev Due : Applicative → Type 0
  Due = IsDue (IsGenerated book 0) r

  -- no page is full below s
  none-enough : (s : ℕ) (es : List Applicative) → IsDueFront Due r.cost s ⊥ es → length es ≤ r.take → (t : ℕ) → t < s → IsEnough Due r.cost r.take t → ⊥
  none-enough s es front few t l q =
      let in-front : (e : Applicative) → IsIn q.0 e → IsIn es e = λ e i.
      (let d = q.2 e (in_to q.0 e i) in
      let z = d.1 in
      elim (front.all e d.0 (omega (arith, z, l))) [ inl j ↦ j | inr j ↦ absurd j.0 ]) in
      let a = no_more_than q.0 es q.1 in-front in
      let b = q.3 in
      omega (arith, a, b, few)

  few-codes : (es : List Applicative) (codes : List (List ℕ)) → codes ≡ map code_of es → length codes ≤ r.take → length es ≤ r.take
  few-codes es codes e few = (let a = ap (λ (ws : List (List ℕ)). length ws) e ∙ same-long es in omega (arith, a, few))

  -- all due terms of size below s are listed by these codes
  abbrev AreListed : ℕ → List (List ℕ) → Type 0
  AreListed s codes = (es : List Applicative) × (codes ≡ map code_of es) × IsDueFront Due r.cost s ⊥ es

  -- too many terms of node 0
  pub exceeds-at : (s n left pool : ℕ) (w : Walk) → 0 < length book → s ≤ r.max → IsSearched book r s n w → AtLeast book r.cost s 0 (left + 1) → pool ≤ n + left → ExceedsPool book r pool
  exceeds-at s n left pool w some m h c over =
      let d = h.due in
      over-at book r s pool (over-more s 0 n left pool some h.made c over) m (none-enough s d.0 d.2 (few-codes d.0 w.codes d.1 h.few))

  -- one size more is listed
  listed-next : (s n : ℕ) (old new : Walk) (going : Bool) → IsSearched book r s n old → Lists (IsDueCode Due r.cost s) old new going → going ≡ true → AreListed (s + 1) new.codes
  listed-next s n old new going h l g =
      let d = h.due in
      let m = front-next Due r.cost positive s d.0 old new going h.code d.1 d.2 l in
      let P : Bool → Type 0 = λ b. IsDueFront Due r.cost (s + 1) (b ≡ false) m.0 in
      (m.0, m.1, front-still Due r.cost positive (s + 1) m.0 (subst P g m.2))

  -- too many terms of all nodes
  pub exceeds-next : (s n pool : ℕ) (old new : Walk) (going : Bool) → s < r.max → IsSearched book r s n old → Lists (IsDueCode Due r.cost s) old new going → going ≡ true → length new.codes ≤ r.take → IsOverfullAt book r (s + 1) 0 pool → ExceedsPool book r pool
  exceeds-next s n pool old new going m h l g few over =
      let d = listed-next s n old new going h l g in
      over-next book r s pool over m (none-enough (s + 1) d.0 d.2 (few-codes d.0 new.codes d.1 few))

  pub searched-start : (w : Walk) → w.code.items ≡ [] → w.codes ≡ [] → IsSearched book r 1 0 w
  searched-start w code codes = record {
    code = code;
    few = (let a = ap (λ (ws : List (List ℕ)). length ws) codes in omega (arith, a));
    due = ([], codes, front-start Due r.cost positive);
    made = made-start;
  }

  pub searched-next : (s n k : ℕ) (old new : Walk) (going : Bool) → IsSearched book r s n old → Lists (IsDueCode Due r.cost s) old new going → going ≡ true → new.code.items ≡ old.code.items → length new.codes ≤ r.take → MadeIs book r (s + 1) 0 k → IsSearched book r (s + 1) k new
  searched-next s n k old new going h l g code few made = record {
    code = code ∙ h.code;
    few = few;
    due = listed-next s n old new going h l g;
    made = made;
  }

  at-most : (s d : ℕ) → IsEnough Due r.cost r.take s ⊎ (s ≡ r.max) → IsDecidingSize Due r.cost r.take r.max d → d ≤ s
  at-most s d f h = elim (cases_lt s d) [
    | inl m ↦ absurd (elim f [ inl q ↦ h.none_less s m q | inr p ↦ (let y = h.within in omega (arith, y, p, m)) ])
    | inr m ↦ m
  ]

  later-made : (s d : ℕ) (p : Pair) → d ≤ s → IsPooled book r.cost d p → IsMade book r s 1 p
  later-made s d p l h = record {
    node = h.node;
    generated = h.generated;
    short = h.short;
    so_far = elim h.sized [
      | inl m ↦ inl (omega (arith, m, l))
      | inr m ↦ elim (cases_lt d s) [
        | inl z ↦ inl (let y = m.1 in omega (arith, y, z))
        | inr z ↦ inr ((let y = m.0 in omega (arith, y)), (let y = m.1 in omega (arith, y, z, l)))
      ]
    ];
  }

  -- the page is known at s, and no more pairs are made for it than the pool holds
  pub fits-at : (s n pool : ℕ) → IsEnough Due r.cost r.take s ⊎ (s ≡ r.max) → MadeIs book r s 1 n → n ≤ pool → FitsPool book r pool
  fits-at s n pool known h within d k e q =
      let l = at-most s d known e in
      let a = no_more_than q.0 h.0 q.1 (λ p i. in_from h.0 p ((h.2 p).1 (later-made s d p l ((q.2 p).0 (in_to q.0 p i))))) in
      let b = q.3 in
      let c = h.3 in
      omega (arith, a, b, c, within)

  -- the list is full, or the size is the last
  pub found-at : 1 ≤ r.take → (s n k pool : ℕ) (old new : Walk) (going : Bool) → 0 < length book → s ≤ r.max → IsSearched book r s n old → Lists (IsDueCode Due r.cost s) old new going → (going ≡ false → r.take < length new.codes) → (r.take < length new.codes) ⊎ (s ≡ r.max) → CountIs book r.cost s 0 k → n + k ≤ pool → IsFound book r pool s new.codes
  found-at some s n k pool old new going node m h l full known c within =
      let d = h.due in
      let codes = due-codes book r positive s d.0 old new going h.code d.1 d.2 l full in
      let page = page-known book r some s new.codes m codes known in
      record {
        within = m;
        due = codes;
        known = known;
        fits = fits-at s (n + k) pool page.1 (made-more s 0 n k node h.made c) within;
      }
