-- A page has a deciding size and a pool at it: the states are made size by size.
use Rattle.std.proofs.Common.{◌≡◌, ℕ, zero, suc, ◌+◌, ◌-◌, ◌<◌, ◌≤◌, List, [], ◌∷◌, ◌++◌, length, take, refl, sym, ◌∙◌, subst, inl, inr, arith, Bool, true, false}
use Rattle.std.specs.Prelude.{◌⊎◌, ◌↔◌, nat_eq, nat_lt, if◌then◌else◌}
use Rattle.std.specs.List.{filter}
use Rattle.std.proofs.lemmas.Bool.{cases_lt}
use Rattle.std.proofs.lemmas.Bool.Decides.{nat_tests}
use Rattle.cls_base.specs.Terms.{Applicative, code_of, Precedes}
use Rattle.cls_base.specs.declared.rule.Rule.{Rule}
use Rattle.cls_base.specs.Languages.{rules_at}
use Rattle.cls_base.specs.Pages.{Request, IsDue, IsPage}
use Rattle.cls_base.specs.Pools.{PoolIs, IsDecidingSize}
use Rattle.cls_term.proofs.Codes.{code_of-one_to_one}
use Rattle.cls_term.proofs.Orders.{Precedes-total}
use Rattle.cls_enum.specs.Candidates.{candidates, IsInCell}
use Rattle.cls_enum.specs.Members.{IsIn, CodesRise}
use Rattle.cls_enum.specs.Requests.{later}
use Rattle.cls_enum.specs.States.{IsState, IsTerm}
use Rattle.cls_enum.proofs.CellLaws.{candidates_exact}
use Rattle.cls_enum.proofs.StateLaws.{few-before, made-pooled, enough-is, state-next, page-is}
use Rattle.cls_enum.proofs.StateSteps.{state-more, state-start, state-initial, paired}

-- a list of the same terms in the order of their codes
abbrev Sorted : List Applicative → Type 0
Sorted xs = (ys : List Applicative) × CodesRise ys × ((e : Applicative) → IsIn ys e ↔ IsIn xs e)

-- the first of the list, if there is one, comes after e
abbrev Heads : Applicative → List Applicative → Type 0
Heads e [] = Unit {0}
Heads e (y ∷ ys) = Precedes (code_of e) (code_of y)

heads-rise : (e : Applicative) (ys : List Applicative) → Heads e ys → CodesRise ys → CodesRise (e ∷ ys)
heads-rise e [] h c = tt
heads-rise e (y ∷ ys) h c = (h, c)

rise-heads : (y : Applicative) (ys : List Applicative) → CodesRise (y ∷ ys) → Heads y ys × CodesRise ys
rise-heads y [] c = (tt, tt)
rise-heads y (z ∷ ys) c = (c.0, c.1)

-- the list with e in its place; what heads the list heads the new one, if it comes before e
inserted : (e : Applicative) (ys : List Applicative) → CodesRise ys → (zs : List Applicative) × CodesRise zs × ((x : Applicative) → IsIn zs x ↔ ((e ≡ x) ⊎ IsIn ys x)) × ((x : Applicative) → Heads x ys → Precedes (code_of x) (code_of e) → Heads x zs)
inserted e [] c = (e ∷ [], tt, (λ x. ((λ i. i), (λ i. i))), (λ x h p. p))
inserted e (y ∷ ys) c = elim (Precedes-total (code_of e) (code_of y)) [
  | inl l ↦ (e ∷ y ∷ ys, (l, c), (λ x. ((λ i. i), (λ i. i))), (λ x h p. p))
  | inr q ↦ elim q [
    | inl p ↦
        let d = code_of-one_to_one e y p in
        (y ∷ ys, c, (λ x. ((λ i. inr i), (λ i. elim i [ inl z ↦ inl (sym d ∙ z) | inr j ↦ j ]))), (λ x h p. h))
    | inr g ↦
        let t = rise-heads y ys c in
        let r = inserted e ys t.1 in (
          y ∷ r.0,
          heads-rise y r.0 (r.3 y t.0 g) r.1,
          (λ x. (
            (λ i. elim i [ inl z ↦ inr (inl z) | inr j ↦ elim ((r.2 x).0 j) [ inl z ↦ inl z | inr k ↦ inr (inr k) ] ]),
            (λ i. elim i [ inl z ↦ inr ((r.2 x).1 (inl z)) | inr j ↦ elim j [ inl z ↦ inl z | inr k ↦ inr ((r.2 x).1 (inr k)) ] ]),
          )),
          (λ x h p. h),
        )
  ]
]

sorted : (xs : List Applicative) → Sorted xs
sorted [] = ([], tt, (λ e. ((λ i. i), (λ i. i))))
sorted (x ∷ xs) =
    let s = sorted xs in
    let r = inserted x s.0 s.1 in (
      r.0,
      r.1,
      (λ e. (
        (λ i. elim ((r.2 e).0 i) [ inl z ↦ inl z | inr j ↦ inr ((s.2 e).0 j) ]),
        (λ i. elim i [ inl z ↦ (r.2 e).1 (inl z) | inr j ↦ (r.2 e).1 (inr ((s.2 e).1 j)) ]),
      )),
    )

module _ (book : List (List (Rule ℕ))) (r : Request) (positive : (x : ℕ) → 1 ≤ r.cost x) where
  abbrev Exact : ℕ → (ℕ → ℕ → List Applicative) → Type 0
  Exact s cell = (t : ℕ) → t < s → (n : ℕ) (e : Applicative) → IsIn (cell t n) e ↔ IsInCell book r.cost n t e

  abbrev States : ℕ → ℕ → Type 0
  States s i = (ps : List (ℕ × Applicative)) × ((due : List Applicative) × IsState book r s i ps due)

  cell-of : (s : ℕ) (cell : ℕ → ℕ → List Applicative) → Exact s cell → (i : ℕ) → (es : List Applicative) × CodesRise es × ((e : Applicative) → IsIn es e ↔ IsInCell book r.cost i s e)
  cell-of s cell x i =
      let c = sorted (candidates cell r.cost s (rules_at book i)) in
      let k = candidates_exact book r.cost positive cell s x i in
      (c.0, c.1, (λ e. ((λ j. (k e).0 ((c.2 e).0 j)), (λ m. (c.2 e).1 ((k e).1 m)))))

  -- the due terms stay where the terms of further nodes are made
  others : (s : ℕ) (cell : ℕ → ℕ → List Applicative) → Exact s cell → (n i : ℕ) → i + n ≡ length book → 0 < i → (ps : List (ℕ × Applicative)) (due : List Applicative) → IsState book r s i ps due → (qs : List (ℕ × Applicative)) × IsState book r s (length book) qs due
  others s cell x zero i p z ps due h = let e : i ≡ length book = omega arith in (ps, subst (λ (j : ℕ). IsState book r s j ps due) e h)
  others s cell x (suc n) i p z ps due h =
      let c = cell-of s cell x i in
      others s cell x n (i + 1) (omega arith) (omega arith) (ps ++ paired i c.0) due (state-more book r s i ps due c.0 z (omega arith) h c.1 c.2)

  exact-next : (s : ℕ) (cell : ℕ → ℕ → List Applicative) → Exact s cell → Exact (s + 1) (λ t n. if nat_eq t s then candidates cell r.cost s (rules_at book n) else cell t n)
  exact-next s cell x t l n e = elim (cases_lt t s) [
    | inl m ↦
        let b : nat_eq t s ≡ false = grind (arith, nat_tests) in
        let P : Bool → Type 0 = λ b. IsIn (if b then candidates cell r.cost s (rules_at book n) else cell t n) e ↔ IsInCell book r.cost n t e in
        subst P (sym b) (x t m n e)
    | inr m ↦
        let b : nat_eq t s ≡ true = grind (arith, nat_tests) in
        let z : s ≡ t = omega arith in
        let P : Bool → Type 0 = λ b. IsIn (if b then candidates cell r.cost s (rules_at book n) else cell t n) e ↔ IsInCell book r.cost n t e in
        let Q : ℕ → Type 0 = λ u. IsIn (candidates cell r.cost s (rules_at book n)) e ↔ IsInCell book r.cost n u e in
        subst P (sym b) (subst Q z (candidates_exact book r.cost positive cell s x n e))
  ]

  abbrev Decided : Type 0
  Decided = (s : ℕ) × IsDecidingSize (IsDue (IsTerm book r) r) r.cost r.take r.max s × ((n : ℕ) × PoolIs book r.cost s n) × (0 < r.take → (terms : List Applicative) × ((more : Bool) × IsPage (IsTerm book r) r terms more))

  decided-here : (s : ℕ) (ps qs : List (ℕ × Applicative)) (due ds : List Applicative) → s ≤ r.max → IsState book r s 0 ps due → length due ≤ r.take → IsState book r s 1 qs ds → (r.take < length ds) ⊎ (s ≡ r.max) → Decided
  decided-here s ps qs due ds w h few k d = (
    s,
    record {
      within = w;
      none_less = few-before book r s ps due h few;
      enough_or_all = elim d [ inl l ↦ inl (enough-is book r s qs ds k l) | inr p ↦ inr p ];
    },
    (
      length qs,
      (
        qs,
        k.once,
        (λ p. (
          (λ c. (made-pooled book r s p).0 ((k.made p).0 c)),
          (λ h. (k.made p).1 ((made-pooled book r s p).1 h)),
        )),
        refl,
      ),
    ),
    (λ some. (take r.take ds, (nat_lt r.take (length ds), page-is book r s qs ds k some w d))),
  )

  decided-from : (fuel s : ℕ) (cell : ℕ → ℕ → List Applicative) → 0 < length book → s + fuel ≡ r.max → Exact s cell → (ps : List (ℕ × Applicative)) (due : List Applicative) → IsState book r s 0 ps due → length due ≤ r.take → Decided
  decided-from zero s cell l p x ps due h few =
      let c = cell-of s cell x 0 in
      decided-here s ps (ps ++ paired 0 c.0) due (due ++ filter (later r.cost r.after) c.0) (omega arith) h few (state-start book r s ps due c.0 l (omega arith) h c.1 c.2) (inr (omega arith))
  decided-from (suc fuel) s cell l p x ps due h few =
      let c = cell-of s cell x 0 in
      let ds = due ++ filter (later r.cost r.after) c.0 in
      let k = state-start book r s ps due c.0 l (omega arith) h c.1 c.2 in
      elim (cases_lt r.take (length ds)) [
        | inl m ↦ decided-here s ps (ps ++ paired 0 c.0) due ds (omega arith) h few k (inl m)
        | inr m ↦
            let o = others s cell x (length book - 1) 1 (omega arith) (omega arith) (ps ++ paired 0 c.0) ds k in
            decided-from fuel (s + 1) (λ t n. if nat_eq t s then candidates cell r.cost s (rules_at book n) else cell t n) l (omega arith) (exact-next s cell x) o.0 ds (state-next book r s (length book) o.0 ds l refl o.1) m
      ]

decided : (book : List (List (Rule ℕ))) (r : Request) → 0 < length book → (positive : (x : ℕ) → 1 ≤ r.cost x) → Decided book r positive
decided book r l positive =
    decided-from book r positive r.max 0 (λ t n. []) l (omega arith) (λ t m n e. absurd (omega arith)) [] [] (state-initial book r) (omega arith)

pub each_page-decided : (book : List (List (Rule ℕ))) (r : Request) → 0 < length book → ((x : ℕ) → 1 ≤ r.cost x) → (s : ℕ) × IsDecidingSize (IsDue (IsTerm book r) r) r.cost r.take r.max s × ((n : ℕ) × PoolIs book r.cost s n)
each_page-decided book r l positive = let d = decided book r l positive in (d.0, d.1, d.2)

pub each_page-exists : (book : List (List (Rule ℕ))) (r : Request) → 0 < length book → ((x : ℕ) → 1 ≤ r.cost x) → 0 < r.take → (terms : List Applicative) × ((more : Bool) × IsPage (IsTerm book r) r terms more)
each_page-exists book r l positive some = (decided book r l positive).3 some
