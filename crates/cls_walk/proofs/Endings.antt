-- Beyond the size at which the terms end, a greater size that is asked for changes nothing.
use Rattle.std.proofs.Common.{◌≡◌, ℕ, ◌+◌, ◌*◌, ◌<◌, ◌≤◌, List, [], length, take, min, refl, sym, subst, inl, inr, arith}
use Rattle.std.specs.Prelude.{Contains, Bool, Option, Some, slice_get, Result, Ok, Err, IfErr}
use Rattle.std.proofs.lemmas.Bool.{cases_lt}
use Rattle.std.proofs.lemmas.Nat.{mul-le}
use Rattle.std.proofs.lemmas.List.{get_or_past}
use Rattle.std.proofs.lemmas.List.Elements.{Contains-push_cases}
use Rattle.cls_base.specs.Terms.{Applicative, component, apply, length_of, size_of}
use Rattle.cls_base.specs.declared.rule.Rule.{Rule}
use Rattle.cls_base.specs.declared.rule.Rule.TheVariants.{Head}
use Rattle.cls_base.specs.Languages.{IsGenerated, NodeRule, Applies, done, next, by_head, by_any, rules_at}
use Rattle.cls_base.specs.Pages.{Request, IsDue, IsPage}
use Rattle.cls_base.specs.Pools.{PoolIs, IsEnough, IsDecidingSize}
use Rattle.cls_base.proofs.Lists.{Contains-nil}
use Rattle.cls_enum.specs.Faults.{IfTooMany}
use Rattle.cls_enum.specs.States.{ExceedsPool, FitsPool}
use Rattle.cls_enum.specs.declared.fault.PageFault.{PageFault}
use Rattle.cls_enum.specs.declared.fault.PageFault.TheVariants.{OutOfMemory, TooManyTerms}
use Rattle.cls_walk.specs.Ends.{CostAtMost, EndsAt}
use Rattle.cls_walk.proofs.Columns.{rules-next}

module _ (book : List (List (Rule ℕ))) (cost : ℕ → ℕ) where
  module _ (most : ℕ) (costs : (n : ℕ) → CostAtMost cost most (rules_at book n)) where
    joined-most : (f a : Applicative) → size_of cost f ≤ most * length_of f → size_of cost a ≤ most * length_of a → size_of cost f + size_of cost a ≤ most * (length_of f + length_of a)
    joined-most f a p q = let d : most * (length_of f + length_of a) ≡ most * length_of f + most * length_of a = grind arith in omega (arith, p, q, d)

    mutual
      size-most : (n : ℕ) (e : Applicative) → IsGenerated book n e → size_of cost e ≤ most * length_of e
      size-most n e (by_head {x = x} {ns = ns} c h) = applied-most (component x) ns e (let l = costs n x ns c in omega arith) h
      size-most n _ (by_any {l = l} {m = m} {f = f} {a = a} c g h) = joined-most f a (size-most l f g) (size-most m a h)

      applied-most : (f : Applicative) (ns : List ℕ) (e : Applicative) → size_of cost f ≤ most * length_of f → Applies ℕ (NodeRule book) f ns e → size_of cost e ≤ most * length_of e
      applied-most f _ e l done = l
      applied-most f _ e l (next {a = a} {n = n} {ns = ns} g h) = applied-most (apply f a) ns e (joined-most f a l (size-most n a g)) h

    -- where no component costs more than `most`, no term that may stand on a page is larger than 64 times that
    pub ends-here : (max : ℕ) → EndsAt book cost max (most * 64 + 1)
    ends-here max = inr (λ n e g l.
        let a = size-most n e g in
        let b = mul-le most (length_of e) most 64 (omega arith) l in
        omega (arith, a, b))

  module _ (count : ℕ) (after : Option Applicative) (s max : ℕ) (within : s ≤ max) (ends : EndsAt book cost max s) where
    abbrev asked : ℕ → Request
    asked m = record { cost = cost; max = m; take = count; after = after }

    abbrev Due : ℕ → Applicative → Type 0
    Due m e = IsDue (IsGenerated book 0) (asked m) e

    due-up : (e : Applicative) → Due s e → Due max e
    due-up e d = record { typed = d.typed; small = (let z = d.small in omega arith); short = d.short; later = d.later }

    due-down : (e : Applicative) → Due max e → Due s e
    due-down e d = record {
      typed = d.typed;
      small = elim ends [ inl p ↦ (let z = d.small in omega (arith, z, p)) | inr f ↦ (let z = f 0 e d.typed d.short in omega arith) ];
      short = d.short;
      later = d.later;
    }

    pub page-up : (terms : List Applicative) (more : Bool) → IsPage (IsGenerated book 0) (asked s) terms more → IsPage (IsGenerated book 0) (asked max) terms more
    page-up terms more p = record {
      rises = p.rises;
      due = λ e c. due-up e (p.due e c);
      complete = λ e d. p.complete e (due-down e d);
      more_exactly = (
        (λ m. let x = p.more_exactly.0 m in (x.0, due-up x.0 x.1, x.2)),
        (λ x. p.more_exactly.1 (x.0, due-down x.0 x.1, x.2)),
      );
      at_most = p.at_most;
      full = p.full;
    }

    enough-up : (t : ℕ) → IsEnough (Due s) cost count t → IsEnough (Due max) cost count t
    enough-up t q = (q.0, q.1, (λ e c. let x = q.2 e c in (due-up e x.0, x.1)), q.3)

    enough-down : (t : ℕ) → IsEnough (Due max) cost count t → IsEnough (Due s) cost count t
    enough-down t q = (q.0, q.1, (λ e c. let x = q.2 e c in (due-down e x.0, x.1)), q.3)

    -- behind s the pool is the same
    pool-down : (d n : ℕ) → s < d → d ≤ max → PoolIs book cost d n → PoolIs book cost s n
    pool-down d n l m q = elim ends [
      | inl p ↦ absurd (omega (arith, p, l, m))
      | inr f ↦ (
        q.0,
        q.1,
        (λ p. (
          (λ c. let k = (q.2 p).0 c in record { node = k.node; generated = k.generated; short = k.short; sized = inl (f p.0 p.1 k.generated k.short) }),
          (λ k. (q.2 p).1 (record { node = k.node; generated = k.generated; short = k.short; sized = inl (let z = f p.0 p.1 k.generated k.short in omega arith) })),
        )),
        q.3,
      )
    ]

    -- the page up to the greater size is decided with the same pool
    decided : (d n : ℕ) → IsDecidingSize (Due max) cost count max d → PoolIs book cost d n → (c : ℕ) × IsDecidingSize (Due s) cost count s c × PoolIs book cost c n
    decided d n h q = elim (cases_lt s d) [
      | inl l ↦ (
        s,
        record { within = omega arith; none_less = (λ t m k. h.none_less t (omega arith) (enough-up t k)); enough_or_all = inr refl },
        pool-down d n l h.within q,
      )
      | inr l ↦ (
        d,
        record {
          within = l;
          none_less = λ t m k. h.none_less t m (enough-up t k);
          enough_or_all = elim h.enough_or_all [ inl k ↦ inl (enough-down d k) | inr p ↦ inr (omega (arith, p, l, within)) ];
        },
        q,
      )
    ]

    pub fits-up : (pool : ℕ) → FitsPool book (asked s) pool → FitsPool book (asked max) pool
    fits-up pool f d n h q = let x = decided d n h q in f x.0 n x.1 x.2

    pub exceeds-up : (pool : ℕ) → ExceedsPool book (asked s) pool → ExceedsPool book (asked max) pool
    exceeds-up pool f d n h q = let x = decided d n h q in f x.0 n x.1 x.2

-- one more rule
pub costs-next : (cost : ℕ → ℕ) (rs : List (Rule ℕ)) (i old x new : ℕ) (r : Rule ℕ) → slice_get rs i ≡ Some r → CostAtMost cost old (take i rs) → ((y : ℕ) (ns : List ℕ) → r ≡ Head y ns → cost y ≤ x) → old ≤ new → x ≤ new → CostAtMost cost new (take (i + 1) rs)
costs-next cost rs i old x new r p h k a b y ns c =
    let P : List (Rule ℕ) → Type 0 = λ qs. Contains qs (Head y ns) in
    elim (Contains-push_cases (take i rs) r (Head y ns) (subst P (rules-next rs i r p) c)) [
      | inl d ↦ (let z = h y ns d in omega (arith, z, a))
      | inr e ↦ (let z = k y ns e in omega (arith, z, b))
    ]

-- one more node
pub nodes-next : (book : List (List (Rule ℕ))) (cost : ℕ → ℕ) (i old new : ℕ) (rs : List (Rule ℕ)) → rs ≡ rules_at book i → ((n : ℕ) → n < i → CostAtMost cost old (rules_at book n)) → old ≤ new → CostAtMost cost new rs → (n : ℕ) → n < i + 1 → CostAtMost cost new (rules_at book n)
nodes-next book cost i old new rs p h l k n m = elim (cases_lt n i) [
  | inl z ↦ (λ x ns c. let a = h n z x ns c in omega (arith, a, l))
  | inr z ↦
      let e : i ≡ n = omega arith in
      let P : List (Rule ℕ) → Type 0 = λ qs. CostAtMost cost new qs in
      let Q : ℕ → Type 0 = λ j. CostAtMost cost new (rules_at book j) in
      subst Q e (subst P p k)
]

-- a node behind the last one has no rules
pub nodes-whole : (book : List (List (Rule ℕ))) (cost : ℕ → ℕ) (i most : ℕ) → length book ≤ i → ((n : ℕ) → n < i → CostAtMost cost most (rules_at book n)) → (n : ℕ) → CostAtMost cost most (rules_at book n)
nodes-whole book cost i most l h n = elim (cases_lt n i) [
  | inl m ↦ h n m
  | inr m ↦
      let e : rules_at book n ≡ [] = get_or_past book n [] (omega arith) in
      let P : List (Rule ℕ) → Type 0 = λ rs. CostAtMost cost most rs in
      subst P (sym e) (λ x ns c. absurd (Contains-nil (Head x ns) c))
]

-- a sum that is within the greatest size isn't capped
pub not_capped : (m best a b max : ℕ) → a ≡ min (best * 64) m → b ≡ min (a + 1) m → b < max → max ≤ m → b ≡ best * 64 + 1
not_capped m best a b max p q l k = omega arith

-- what a fault says, made weaker
pub too_many_weaker : {T : Type 0} (r : Result T PageFault) (A B : Type 0) → (A → B) → IfErr r (λ fault. IfTooMany fault A) → IfErr r (λ fault. IfTooMany fault B)
too_many_weaker (Ok x) A B f h = tt
too_many_weaker (Err OutOfMemory) A B f h = tt
too_many_weaker (Err TooManyTerms) A B f h = f h
