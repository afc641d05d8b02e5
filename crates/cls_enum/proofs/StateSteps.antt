-- One more cell.
use Rattle.std.proofs.Common.{◌≡◌, ℕ, zero, suc, ◌+◌, ◌-◌, ◌*◌, ◌<◌, ◌≤◌, List, [], ◌∷◌, ◌++◌, length, map, get_or, refl, sym, ap, ◌∙◌, subst, inl, inr, arith, length-append, Bool, true, false, cond}
use Rattle.std.specs.Prelude.{Contains, ◌↔◌, ◌⊎◌, Option, None, Some, IfSome, nat_lt, if◌then◌else◌, slice_index_or}
use Rattle.std.specs.List.{filter}
use Rattle.std.specs.Ordering.{is_gt}
use Rattle.std.specs.declared.cmp.Ordering.{Ordering}
use Rattle.std.specs.declared.cmp.Ordering.TheVariants.{Less, Equal, Greater}
use Rattle.std.proofs.Math.Nat.{suc-mul}
use Rattle.std.proofs.lemmas.Bool.{cases_lt}
use Rattle.std.proofs.lemmas.Bool.Decides.{nat_tests}
use Rattle.std.proofs.lemmas.List.{length_push, map-append, length-map, get_or_past}
use Rattle.cls_base.specs.Terms.{Applicative, size_of, Before}
use Rattle.cls_base.specs.declared.rule.Rule.{Rule}
use Rattle.cls_base.specs.Languages.{IsGenerated, rules_at, by_head, by_any}
use Rattle.cls_base.specs.Pages.{Request, Rises}
use Rattle.cls_base.specs.Lists.{AreDistinct, AreBelow}
use Rattle.cls_term.proofs.Orders.{greater_exactly}
use Rattle.cls_term.specs.Banks.{at}
use Rattle.cls_term.specs.Order.{order_of}
use Rattle.cls_enum.specs.Candidates.{candidates, IsInCell}
use Rattle.cls_enum.specs.CellTables.{cell_at, cell_of}
use Rattle.cls_enum.specs.Members.{IsIn, IsGrown, IsCell, CodesRise, IsOverfull}
use Rattle.cls_enum.specs.Plans.{AreReady, AllReady, book_of, rules_of, plan_candidates}
use Rattle.cls_enum.specs.Requests.{later, due_after}
use Rattle.cls_enum.specs.States.{IsMade, IsState, IsKept, IsOverfullAt}
use Rattle.cls_enum.specs.declared.plan.Plan.{Plan}
use Rattle.cls_enum.proofs.CellLaws.{candidates_exact, plan_candidates-rules}
use Rattle.cls_enum.proofs.Counting.{once-append}
use Rattle.cls_enum.proofs.Members.{in_from, in_to, in_left, in_right, in_cases}
use Rattle.cls_enum.proofs.PageLaws.{rises-tail, rises-before, rises-cons, rises-append}
use Rattle.cls_enum.proofs.StateLaws.{rising-once, state-next}
use Rattle.cls_enum.proofs.Storing.{map-at-grown, AreBelow-grown}

-- the terms with their node
abbrev pub paired : ℕ → List Applicative → List (ℕ × Applicative)
paired i [] = []
paired i (e ∷ es) = (i, e) ∷ paired i es

in_paired : (i : ℕ) (es : List Applicative) (p : ℕ × Applicative) → IsIn (paired i es) p → (i ≡ p.0) × IsIn es p.1
in_paired i [] p h = absurd h
in_paired i (e ∷ es) p (inl q) = (ap (λ (x : ℕ × Applicative). x.0) q, inl (ap (λ (x : ℕ × Applicative). x.1) q))
in_paired i (e ∷ es) p (inr h) = let r = in_paired i es p h in (r.0, inr r.1)

paired_in : (i : ℕ) (es : List Applicative) (p : ℕ × Applicative) → i ≡ p.0 → IsIn es p.1 → IsIn (paired i es) p
paired_in i [] p q h = absurd h
paired_in i (e ∷ es) p q (inl l) = inl (λ j. (q j, l j))
paired_in i (e ∷ es) p q (inr h) = inr (paired_in i es p q h)

paired-once : (i : ℕ) (es : List Applicative) → AreDistinct es → AreDistinct (paired i es)
paired-once i [] h = tt
paired-once i (e ∷ es) h = ((λ c. h.0 (in_to es e (in_paired i es (i, e) (in_from (paired i es) (i, e) c)).1)), paired-once i es h.1)

length-paired : (i : ℕ) (es : List Applicative) → length (paired i es) ≡ length es
length-paired i [] = refl
length-paired i (e ∷ es) = omega (arith, length-paired i es)

-- terms of one size whose codes rise
codes-rises : (cost : ℕ → ℕ) (s : ℕ) (es : List Applicative) → ((e : Applicative) → IsIn es e → size_of cost e ≡ s) → CodesRise es → Rises cost es
codes-rises cost s [] f h = tt
codes-rises cost s (e ∷ []) f h = tt
codes-rises cost s (e ∷ g ∷ es) f h = (inr (f e (inl refl) ∙ sym (f g (inr (inl refl))), h.0), codes-rises cost s (g ∷ es) (λ x i. f x (inr i)) h.1)

kept-in : {A : Type 0} (p : A → Bool) (x : A) (xs ys : List A) (e : A) (b : Bool) → p x ≡ b → IsIn ys e ↔ (IsIn xs e × (p e ≡ true)) → IsIn (cond b (x ∷ ys) ys) e ↔ (IsIn (x ∷ xs) e × (p e ≡ true))
kept-in {A} p x xs ys e true q h = (
  (λ i. elim i [ inl d ↦ (inl d, (let Q : A → Type 0 = λ z. p z ≡ true in subst Q d q)) | inr j ↦ let r = h.0 j in (inr r.0, r.1) ]),
  (λ r. elim r.0 [ inl d ↦ inl d | inr j ↦ inr (h.1 (j, r.1)) ]),
)
kept-in {A} p x xs ys e false q h = (
  (λ j. let r = h.0 j in (inr r.0, r.1)),
  (λ r. elim r.0 [
    | inl d ↦ absurd (let Q : A → Type 0 = λ z. p z ≡ false in let w : p e ≡ false = subst Q d q in let t = r.1 in cc)
    | inr j ↦ h.1 (j, r.1)
  ]),
)

filter-in : {A : Type 0} (p : A → Bool) (xs : List A) (e : A) → IsIn (filter p xs) e ↔ (IsIn xs e × (p e ≡ true))
filter-in p [] e = ((λ i. absurd i), (λ q. q.0))
filter-in p (x ∷ xs) e = kept-in p x xs (filter p xs) e (p x) refl (filter-in p xs e)

kept-rises : (cost : ℕ → ℕ) (x : Applicative) (ys : List Applicative) (b : Bool) → ((e : Applicative) → IsIn ys e → Before cost x e) → Rises cost ys → Rises cost (cond b (x ∷ ys) ys)
kept-rises cost x ys true f h = rises-cons cost x ys f h
kept-rises cost x ys false f h = h

filter-rises : (cost : ℕ → ℕ) (p : Applicative → Bool) (xs : List Applicative) → Rises cost xs → Rises cost (filter p xs)
filter-rises cost p [] h = tt
filter-rises cost p (x ∷ xs) h = kept-rises cost x (filter p xs) (p x) (λ e i. rises-before cost x e xs h ((filter-in p xs e).0 i).0) (filter-rises cost p xs (rises-tail cost x xs h))

map-cond : (f : ℕ → Applicative) (x : ℕ) (xs : List ℕ) (b : Bool) → map f (cond b (x ∷ xs) xs) ≡ cond b (f x ∷ map f xs) (map f xs)
map-cond f x xs true = refl
map-cond f x xs false = refl

map-filter : (f : ℕ → Applicative) (p : Applicative → Bool) (xs : List ℕ) → map f (filter (λ n. p (f n)) xs) ≡ filter p (map f xs)
map-filter f p [] = refl
map-filter f p (x ∷ xs) = map-cond f x (filter (λ n. p (f n)) xs) (p (f x)) ∙ ap (λ (ys : List Applicative). cond (p (f x)) (f x ∷ ys) ys) (map-filter f p xs)

is_gt-exactly : (o : Ordering) → (is_gt o ≡ true) ↔ (o ≡ Greater)
is_gt-exactly Less = ((λ p. absurd (cc)), (λ p. absurd (cc)))
is_gt-exactly Equal = ((λ p. absurd (cc)), (λ p. absurd (cc)))
is_gt-exactly Greater = ((λ p. refl), (λ p. refl))

later-exactly : (cost : ℕ → ℕ) (after : Option Applicative) (e : Applicative) → (later cost after e ≡ true) ↔ IfSome after (λ a. Before cost a e)
later-exactly cost None e = ((λ p. tt), (λ p. refl))
later-exactly cost (Some a) e =
    let g = greater_exactly cost e a (order_of cost e a) refl in
    let h = is_gt-exactly (order_of cost e a) in
    ((λ p. g.0 (h.0 p)), (λ p. h.1 (g.1 p)))

module _ (book : List (List (Rule ℕ))) (r : Request) where
  made-more : (s i : ℕ) (ps : List (ℕ × Applicative)) (es : List Applicative) → i < length book → ((p : ℕ × Applicative) → Contains ps p ↔ IsMade book r s i p) → ((e : Applicative) → IsIn es e ↔ IsInCell book r.cost i s e) → (p : ℕ × Applicative) → Contains (ps ++ paired i es) p ↔ IsMade book r s (i + 1) p
  made-more s i ps es l h k p = (
    (λ c. elim (in_cases ps (paired i es) p (in_from (ps ++ paired i es) p c)) [
      | inl j ↦ let m = (h p).0 (in_to ps p j) in record { node = m.node; generated = m.generated; short = m.short; so_far = elim m.so_far [ inl z ↦ inl z | inr z ↦ inr ((let y = z.0 in omega arith), z.1) ] }
      | inr j ↦
          let q = in_paired i es p j in
          let m = (k p.1).0 q.1 in
          let P : ℕ → Type 0 = λ n. IsGenerated book n p.1 in
          record { node = omega (arith, q.0, l); generated = subst P q.0 m.0; short = m.2; so_far = inr (omega (arith, q.0), m.1) }
    ]),
    (λ m. elim m.so_far [
      | inl z ↦ in_to (ps ++ paired i es) p (in_left ps (paired i es) p (in_from ps p ((h p).1 (record { node = m.node; generated = m.generated; short = m.short; so_far = inl z }))))
      | inr z ↦ elim (cases_lt p.0 i) [
        | inl b ↦ in_to (ps ++ paired i es) p (in_left ps (paired i es) p (in_from ps p ((h p).1 (record { node = m.node; generated = m.generated; short = m.short; so_far = inr (b, z.1) }))))
        | inr b ↦
            let q : i ≡ p.0 = (let y = z.0 in omega arith) in
            let P : ℕ → Type 0 = λ n. IsGenerated book n p.1 in
            in_to (ps ++ paired i es) p (in_right ps (paired i es) p (paired_in i es p q ((k p.1).1 (subst P (sym q) m.generated, z.1, m.short))))
      ]
    ]),
  )

  -- pairs of the next cell aren't made yet
  once-more : (s i : ℕ) (ps : List (ℕ × Applicative)) (es : List Applicative) → ((p : ℕ × Applicative) → Contains ps p ↔ IsMade book r s i p) → ((e : Applicative) → IsIn es e → IsInCell book r.cost i s e) → AreDistinct ps → AreDistinct es → AreDistinct (ps ++ paired i es)
  once-more s i ps es h k n m = once-append ps (paired i es) n (paired-once i es m) (λ p a b.
      let q = in_paired i es p b in
      let c = k p.1 q.1 in
      let d = (h p).0 (in_to ps p a) in
      elim d.so_far [ inl z ↦ (let y = c.1 in omega arith) | inr z ↦ (let y = z.0 in omega (arith, q.0)) ])

  -- a state with the terms of one more node
  pub state-more : (s i : ℕ) (ps : List (ℕ × Applicative)) (due es : List Applicative) → 0 < i → i < length book → IsState book r s i ps due → CodesRise es → ((e : Applicative) → IsIn es e ↔ IsInCell book r.cost i s e) → IsState book r s (i + 1) (ps ++ paired i es) due
  state-more s i ps due es z l h c k = record {
    made = made-more s i ps es l h.made k;
    once = once-more s i ps es h.made (λ e j. (k e).0 j) h.once (rising-once r.cost es (codes-rises r.cost s es (λ e j. ((k e).0 j).1) c));
    rises = h.rises;
    listed = λ e. (
      (λ d. let q = (h.listed e).0 d in (q.0, elim q.1 [ inl m ↦ inl m | inr m ↦ inr (omega arith, m.1) ])),
      (λ q. (h.listed e).1 (q.0, elim q.1 [ inl m ↦ inl m | inr m ↦ inr (z, m.1) ])),
    );
  }

  -- a state with the terms of the start
  pub state-start : (s : ℕ) (ps : List (ℕ × Applicative)) (due es : List Applicative) → 0 < length book → s ≤ r.max → IsState book r s 0 ps due → CodesRise es → ((e : Applicative) → IsIn es e ↔ IsInCell book r.cost 0 s e) → IsState book r s 1 (ps ++ paired 0 es) (due ++ filter (later r.cost r.after) es)
  state-start s ps due es l w h c k =
      let up = codes-rises r.cost s es (λ e j. ((k e).0 j).1) c in
      let fs = filter (later r.cost r.after) es in
      record {
        made = (let P : ℕ → Type 0 = λ n. (p : ℕ × Applicative) → Contains (ps ++ paired 0 es) p ↔ IsMade book r s n p in let e : 0 + 1 ≡ 1 = omega arith in subst P e (made-more s 0 ps es l h.made k));
        once = once-more s 0 ps es h.made (λ e j. (k e).0 j) h.once (rising-once r.cost es up);
        rises = rises-append r.cost due fs h.rises (filter-rises r.cost (later r.cost r.after) es up)
            (λ x y i j.
            let a = (h.listed x).0 (in_to due x i) in
            let b = ((k y).0 ((filter-in (later r.cost r.after) es y).0 j).0).1 in
            inl (elim a.1 [ inl m ↦ omega arith | inr m ↦ absurd (let q = m.0 in omega arith) ]));
        listed = λ e. (
          (λ d. elim (in_cases due fs e (in_from (due ++ fs) e d)) [
            | inl i ↦ let q = (h.listed e).0 (in_to due e i) in (q.0, elim q.1 [ inl m ↦ inl m | inr m ↦ absurd (let y = m.0 in omega arith) ])
            | inr i ↦
                let q = (filter-in (later r.cost r.after) es e).0 i in
                let m = (k e).0 q.0 in
                (record { typed = m.0; small = (let y = m.1 in omega arith); short = m.2; later = (later-exactly r.cost r.after e).0 q.1 }, inr (omega arith, m.1))
          ]),
          (λ q. in_to (due ++ fs) e (elim q.1 [
            | inl m ↦ in_left due fs e (in_from due e ((h.listed e).1 (q.0, inl m)))
            | inr m ↦ in_right due fs e ((filter-in (later r.cost r.after) es e).1 ((k e).1 (q.0.typed, m.1, q.0.short), (later-exactly r.cost r.after e).1 q.0.later))
          ])),
        );
      }

  -- too many terms of one more node
  pub too_much-cell : (s i pool total : ℕ) (ps : List (ℕ × Applicative)) (due es : List Applicative) → i < length book → IsState book r s i ps due → length ps ≡ total → total ≤ pool → ((e : Applicative) → IsIn es e → IsInCell book r.cost i s e) → IsOverfull (pool - total) [] es → IsOverfullAt book r s (i + 1) pool
  too_much-cell s i pool total ps due es l h c w k o =
      let f : (e : Applicative) → IsIn o.0 e → IsInCell book r.cost i s e = λ e j. elim (o.2 e j) [ inl z ↦ absurd z | inr z ↦ k e z ] in (
        ps ++ paired i o.0,
        once-more s i ps o.0 h.made f h.once o.1,
        (λ p d. elim (in_cases ps (paired i o.0) p (in_from (ps ++ paired i o.0) p d)) [
          | inl j ↦ let m = (h.made p).0 (in_to ps p j) in record { node = m.node; generated = m.generated; short = m.short; so_far = elim m.so_far [ inl z ↦ inl z | inr z ↦ inr ((let y = z.0 in omega arith), z.1) ] }
          | inr j ↦
              let q = in_paired i o.0 p j in
              let m = f p.1 q.1 in
              let P : ℕ → Type 0 = λ n. IsGenerated book n p.1 in
              record { node = omega (arith, q.0, l); generated = subst P q.0 m.0; short = m.2; so_far = inr (omega (arith, q.0), m.1) }
        ]),
        omega (arith, length-append ps (paired i o.0), length-paired i o.0, c, w, o.3),
      )

-- the table with one more list
width-times : (t s w : ℕ) → t < s → t * w + w ≤ s * w
width-times t zero w l = absurd (omega arith)
width-times t (suc s) w l = elim (cases_lt t s) [
  | inl m ↦ omega (arith, width-times t s w m, suc-mul s w)
  | inr m ↦ let e : t ≡ s = omega arith in omega (arith, suc-mul s w, ap (λ (n : ℕ). n * w) e)
]

get-push_old : (xs : List (List ℕ)) (x : List ℕ) (i : ℕ) → i < length xs → get_or (xs ++ x ∷ []) i [] ≡ get_or xs i []
get-push_old [] x i l = absurd (omega arith)
get-push_old (y ∷ xs) x zero l = refl
get-push_old (y ∷ xs) x (suc i) l = get-push_old xs x i (omega arith)

get-push_new : (xs : List (List ℕ)) (x : List ℕ) (i : ℕ) → length xs ≡ i → get_or (xs ++ x ∷ []) i [] ≡ x
get-push_new [] x zero l = refl
get-push_new [] x (suc i) l = absurd (omega arith)
get-push_new (y ∷ xs) x zero l = absurd (omega arith)
get-push_new (y ∷ xs) x (suc i) l = get-push_new xs x i (omega arith)

get-push_below : (n : ℕ) (xs : List (List ℕ)) (x : List ℕ) (i : ℕ) → ((j : ℕ) → AreBelow n (get_or xs j [])) → AreBelow n x → AreBelow n (get_or (xs ++ x ∷ []) i [])
get-push_below n [] x zero h b = b
get-push_below n [] x (suc i) h b = tt
get-push_below n (y ∷ xs) x zero h b = h zero
get-push_below n (y ∷ xs) x (suc i) h b = get-push_below n xs x i (λ j. h (suc j)) b

module _ (w : ℕ) (lists : List (List ℕ)) (ms : List ℕ) where
  cell_at-old : (s i t n : ℕ) → length lists ≡ s * w + i → (t < s) ⊎ ((n < i) × (t ≡ s)) → cell_at (w, lists ++ ms ∷ []) t n ≡ cell_at (w, lists) t n
  cell_at-old s i t n l h = cases (cases_lt n w)
    where
      cases : (n < w) ⊎ (w ≤ n) → cell_at (w, lists ++ ms ∷ []) t n ≡ cell_at (w, lists) t n
      cases (inl m) =
          let b : t * w + n < length lists = elim h [ inl z ↦ omega (arith, width-times t s w z, l, m) | inr z ↦ omega (arith, l, z.0, ap (λ (k : ℕ). k * w) z.1) ] in
          ap (λ (xs : List ℕ). if nat_lt n w then xs else []) (get-push_old lists ms (t * w + n) b)
      cases (inr m) = let e : nat_lt n w ≡ false = grind (arith, nat_tests) in
          ap (λ (b : Bool). if b then slice_index_or (lists ++ ms ∷ []) (t * w + n) [] else []) e ∙ sym (ap (λ (b : Bool). if b then slice_index_or lists (t * w + n) [] else []) e)

  cell_at-new : (s i : ℕ) → length lists ≡ s * w + i → i < w → cell_at (w, lists ++ ms ∷ []) s i ≡ ms
  cell_at-new s i l m =
      let e : nat_lt i w ≡ true = grind (arith, nat_tests) in
      ap (λ (b : Bool). if b then slice_index_or (lists ++ ms ∷ []) (s * w + i) [] else []) e ∙ get-push_new lists ms (s * w + i) l

-- a cell is empty or one of the lists
chosen-below : (m : ℕ) (b : Bool) (xs : List ℕ) → AreBelow m xs → AreBelow m (if b then xs else [])
chosen-below m true xs h = h
chosen-below m false xs h = tt

pub cells-below : (m : ℕ) (cells : ℕ × List (List ℕ)) → ((j : ℕ) → AreBelow m (slice_index_or cells.1 j [])) → (t n : ℕ) → AreBelow m (cell_at cells t n)
cells-below m cells h t n = chosen-below m (nat_lt n cells.0) (slice_index_or cells.1 (t * cells.0 + n) []) (h (t * cells.0 + n))

filter-below : (m : ℕ) (p : ℕ → Bool) (xs : List ℕ) → AreBelow m xs → AreBelow m (filter p xs)
filter-below m p [] h = tt
filter-below m p (x ∷ xs) h = kept (p x) h.0 (filter-below m p xs h.1)
  where
    kept : (b : Bool) → x < m → AreBelow m (filter p xs) → AreBelow m (cond b (x ∷ filter p xs) (filter p xs))
    kept true l k = (l, k)
    kept false l k = k

AreBelow-append : (m : ℕ) (xs ys : List ℕ) → AreBelow m xs → AreBelow m ys → AreBelow m (xs ++ ys)
AreBelow-append m [] ys h k = k
AreBelow-append m (x ∷ xs) ys h k = (h.0, AreBelow-append m xs ys h.1 k)

due_after-below : (m i : ℕ) (p : ℕ → Bool) (due ms : List ℕ) → AreBelow m due → AreBelow m ms → AreBelow m (due_after i p due ms)
due_after-below m zero p due ms h k = AreBelow-append m due (filter p ms) h (filter-below m p ms k)
due_after-below m (suc i) p due ms h k = h

module _ (book : List (List (Rule ℕ))) (r : Request) (positive : (x : ℕ) → 1 ≤ r.cost x) (s i : ℕ) (ts : List Applicative) (cells : ℕ × List (List ℕ)) (due : List ℕ) (total : ℕ) (kept : IsKept book r s i ts cells due total)
    (plans : List Plan) (node : i < length book) (ready : AreReady book r.cost s plans) (ruled : rules_of plans ≡ rules_at book i) where
  exact-below : (t : ℕ) → t < s → (n : ℕ) (e : Applicative) → IsIn (cell_of ts cells t n) e ↔ IsInCell book r.cost n t e
  exact-below t l n e = kept.exact t n (inl l) e

  -- what the plans make is the cell of the language
  pub plans-exact : (e : Applicative) → IsIn (plan_candidates (cell_of ts cells) s plans) e ↔ IsInCell book r.cost i s e
  plans-exact e =
      let p : plan_candidates (cell_of ts cells) s plans ≡ candidates (cell_of ts cells) r.cost s (rules_at book i) =
      plan_candidates-rules book (cell_of ts cells) r.cost s plans ready ∙ ap (candidates (cell_of ts cells) r.cost s) ruled in
      let P : List Applicative → Type 0 = λ es. IsIn es e ↔ IsInCell book r.cost i s e in
      subst P (sym p) (candidates_exact book r.cost positive (cell_of ts cells) s exact-below i e)

  pub plans-over : (pool : ℕ) → total ≤ pool → IsOverfull (pool - total) [] (plan_candidates (cell_of ts cells) s plans) → IsOverfullAt book r s (i + 1) pool
  plans-over pool l o = too_much-cell book r s i pool total kept.pairs (map (at ts) due) (plan_candidates (cell_of ts cells) s plans) node kept.state kept.counted l (λ e j. (plans-exact e).0 j) o

  module _ (us : List Applicative) (ms : List ℕ) (within : s ≤ r.max) (grown : IsGrown ts us) (cell : IsCell us (plan_candidates (cell_of ts cells) s plans) ms) where
    pub es-exact : (e : Applicative) → IsIn (map (at us) ms) e ↔ IsInCell book r.cost i s e
    es-exact e = ((λ j. (plans-exact e).0 ((cell.exact e).0 j)), (λ m. (cell.exact e).1 ((plans-exact e).1 m)))

    pub sized : (e : Applicative) → IsIn (map (at us) ms) e → size_of r.cost e ≡ s
    sized e j = ((es-exact e).0 j).1

-- the state with one more cell, by numbers
state-cell : (book : List (List (Rule ℕ))) (r : Request) (s i : ℕ) (ts us : List Applicative) (due ms : List ℕ) (ps : List (ℕ × Applicative)) → i < length book → s ≤ r.max → IsState book r s i ps (map (at ts) due) → map (at us) due ≡ map (at ts) due → CodesRise (map (at us) ms) → ((e : Applicative) → IsIn (map (at us) ms) e ↔ IsInCell book r.cost i s e) → IsState book r s (i + 1) (ps ++ paired i (map (at us) ms)) (map (at us) (due_after i (λ n. later r.cost r.after (at us n)) due ms))
state-cell book r s zero ts us due ms ps l w h p c k =
    let es = map (at us) ms in
    let q : map (at us) (due ++ filter (λ n. later r.cost r.after (at us n)) ms) ≡ map (at ts) due ++ filter (later r.cost r.after) es =
    map-append (at us) due (filter (λ n. later r.cost r.after (at us n)) ms) ∙ (λ j. p j ++ map-filter (at us) (later r.cost r.after) ms j) in
    let z : 1 ≡ 0 + 1 = omega arith in
    subst (λ (n : ℕ). IsState book r s n (ps ++ paired 0 es) (map (at us) (due ++ filter (λ n. later r.cost r.after (at us n)) ms))) z
    (subst (λ (ds : List Applicative). IsState book r s 1 (ps ++ paired 0 es) ds) (sym q) (state-start book r s ps (map (at ts) due) es l w h c k))
state-cell book r s (suc i) ts us due ms ps l w h p c k =
    subst (λ (ds : List Applicative). IsState book r s (suc i + 1) (ps ++ paired (suc i) (map (at us) ms)) ds) (sym p)
    (state-more book r s (suc i) ps (map (at ts) due) (map (at us) ms) (omega arith) l h c k)

pub kept-step : (book : List (List (Rule ℕ))) (r : Request) (s i : ℕ) (ts us : List Applicative) (cells : ℕ × List (List ℕ)) (due ms : List ℕ) (total : ℕ) → i < length book → s ≤ r.max → IsKept book r s i ts cells due total → IsGrown ts us → AreBelow (length us) ms → CodesRise (map (at us) ms) → ((e : Applicative) → IsIn (map (at us) ms) e ↔ IsInCell book r.cost i s e) → IsKept book r s (i + 1) us (cells.0, cells.1 ++ ms ∷ []) (due_after i (λ n. later r.cost r.after (at us n)) due ms) (total + length ms)
kept-step book r s i ts us cells due ms total l w h g b c k = record {
  pairs = h.pairs ++ paired i (map (at us) ms);
  state = state-cell book r s i ts us due ms h.pairs l w h.state (map-at-grown ts us due g h.due_below) c k;
  counted = omega (arith, length-append h.pairs (paired i (map (at us) ms)), length-paired i (map (at us) ms), length-map ms (at us), h.counted);
  width = h.width;
  cells_made = omega (arith, length_push cells.1 ms, h.cells_made);
  below = λ j. get-push_below (length us) cells.1 ms j (λ n. AreBelow-grown ts us (slice_index_or cells.1 n []) g (h.below n)) b;
  exact = λ t n q e. exact-cases t n e q;
  due_below = due_after-below (length us) i (λ n. later r.cost r.after (at us n)) due ms (AreBelow-grown ts us due g h.due_below) b;
}
  where
    old-cell : (t n : ℕ) (e : Applicative) → (t < s) ⊎ ((n < i) × (t ≡ s)) → IsIn (cell_of us (cells.0, cells.1 ++ ms ∷ []) t n) e ↔ IsInCell book r.cost n t e
    old-cell t n e q =
        let d = cell_at-old cells.0 cells.1 ms s i t n h.cells_made q in
        let m = map-at-grown ts us (cell_at cells t n) g (cells-below (length ts) cells h.below t n) in
        let P : List Applicative → Type 0 = λ xs. IsIn xs e ↔ IsInCell book r.cost n t e in
        subst P (sym (ap (map (at us)) d ∙ m)) (h.exact t n q e)

    new-cell : (t n : ℕ) (e : Applicative) → i ≡ n → s ≡ t → IsIn (cell_of us (cells.0, cells.1 ++ ms ∷ []) t n) e ↔ IsInCell book r.cost n t e
    new-cell t n e p q =
        let d = cell_at-new cells.0 cells.1 ms s i h.cells_made (omega (arith, h.width, l)) in
        let P : List Applicative → Type 0 = λ xs. IsIn xs e ↔ IsInCell book r.cost i s e in
        let z : IsIn (cell_of us (cells.0, cells.1 ++ ms ∷ []) s i) e ↔ IsInCell book r.cost i s e = subst P (sym (ap (map (at us)) d)) (k e) in
        subst (λ (m : ℕ). IsIn (cell_of us (cells.0, cells.1 ++ ms ∷ []) t m) e ↔ IsInCell book r.cost m t e) p
        (subst (λ (m : ℕ). IsIn (cell_of us (cells.0, cells.1 ++ ms ∷ []) m i) e ↔ IsInCell book r.cost i m e) q z)

    exact-cases : (t n : ℕ) (e : Applicative) → (t < s) ⊎ ((n < i + 1) × (t ≡ s)) → IsIn (cell_of us (cells.0, cells.1 ++ ms ∷ []) t n) e ↔ IsInCell book r.cost n t e
    exact-cases t n e (inl m) = old-cell t n e (inl m)
    exact-cases t n e (inr m) = elim (cases_lt n i) [
      | inl z ↦ old-cell t n e (inr (z, m.1))
      | inr z ↦ new-cell t n e (let y = m.0 in omega arith) (sym m.1)
    ]

-- where the terms of all nodes are made, those of the next size come
pub kept-next : (book : List (List (Rule ℕ))) (r : Request) (s i : ℕ) (ts : List Applicative) (cells : ℕ × List (List ℕ)) (due : List ℕ) (total : ℕ) → 0 < length book → i ≡ length book → IsKept book r s i ts cells due total → IsKept book r (s + 1) 0 ts cells due total
kept-next book r s i ts cells due total l p h = record {
  pairs = h.pairs;
  state = state-next book r s i h.pairs (map (at ts) due) l p h.state;
  counted = h.counted;
  width = h.width;
  cells_made = let z : s + 1 ≡ suc s = omega arith in omega (arith, h.cells_made, p, h.width, suc-mul s cells.0, ap (λ (n : ℕ). n * cells.0) z);
  below = h.below;
  exact = λ t n q e. elim q [
    | inl m ↦ elim (cases_lt t s) [
      | inl z ↦ h.exact t n (inl z) e
      | inr z ↦ elim (cases_lt n i) [
        | inl y ↦ h.exact t n (inr (y, omega arith)) e
        | inr y ↦ (
          (λ j. let w : nat_lt n cells.0 ≡ false = let x : cells.0 ≤ n = omega (arith, h.width, p, y) in grind (arith, nat_tests) in
              absurd (let P : Bool → Type 0 = λ b. IsIn (map (at ts) (if b then slice_index_or cells.1 (t * cells.0 + n) [] else [])) e in subst P w j)),
          (λ m. absurd (no_rules book n e (omega (arith, p, y)) m.0)),
        )
      ]
    ]
    | inr m ↦ absurd (let y = m.0 in omega arith)
  ];
  due_below = h.due_below;
}
  where
    none-past : (rs : List (List (Rule ℕ))) (n : ℕ) → length rs ≤ n → rules_at rs n ≡ []
    none-past rs n l = get_or_past rs n [] l

    no-member : (n : ℕ) (x : Rule ℕ) → length book ≤ n → Contains (rules_at book n) x → ⊥
    no-member n x l c = let q : length (rules_at book n) ≡ 0 = ap length (get_or_past book n [] l) in omega (arith, c.1, q)

    no_rules : (b : List (List (Rule ℕ))) (n : ℕ) (e : Applicative) → length book ≤ n → IsGenerated book n e → ⊥
    no_rules b n e l (by_head c g) = no-member n _ l c
    no_rules b n e l (by_any c g h) = no-member n _ l c

-- the plans of a node
pub AllReady-at : (book : List (List (Rule ℕ))) (cost : ℕ → ℕ) (s : ℕ) (plans : List (List Plan)) (i : ℕ) (ps : List Plan) → AllReady book cost s plans → i < length plans → ps ≡ get_or plans i ps → AreReady book cost s ps
AllReady-at book cost s [] i ps h l e = absurd (omega arith)
AllReady-at book cost s (q ∷ plans) zero ps h l e = let P : List Plan → Type 0 = λ x. AreReady book cost s x in subst P (sym e) h.0
AllReady-at book cost s (q ∷ plans) (suc i) ps h l e = AllReady-at book cost s plans i ps h.1 (omega arith) e

pub book_of-at : (plans : List (List Plan)) (i : ℕ) (ps : List Plan) → i < length plans → ps ≡ get_or plans i ps → rules_of ps ≡ rules_at (book_of plans) i
book_of-at [] i ps l e = absurd (omega arith)
book_of-at (q ∷ plans) zero ps l e = ap rules_of e
book_of-at (q ∷ plans) (suc i) ps l e = book_of-at plans i ps (omega arith) e

-- nothing is made at first
pub state-initial : (book : List (List (Rule ℕ))) (r : Request) → IsState book r 0 0 [] []
state-initial book r = record {
  made = λ p. ((λ c. absurd (omega (arith, c.1))), (λ m. elim m.so_far [ inl l ↦ absurd (omega arith) | inr l ↦ absurd (let y = l.0 in omega arith) ]));
  once = tt;
  rises = tt;
  listed = λ e. ((λ c. absurd (omega (arith, c.1))), (λ q. elim q.1 [ inl l ↦ absurd (omega arith) | inr l ↦ absurd (let y = l.0 in omega arith) ]));
}

pub kept-initial : (book : List (List (Rule ℕ))) (r : Request) (w : ℕ) (ts : List Applicative) (cells : ℕ × List (List ℕ)) (due : List ℕ) → w ≡ length book → ts ≡ [] → cells ≡ (w, []) → due ≡ [] → IsKept book r 0 0 ts cells due 0
kept-initial book r w ts cells due l p q z =
    subst (λ (xs : List Applicative). IsKept book r 0 0 xs cells due 0) (sym p)
    (subst (λ (xs : ℕ × List (List ℕ)). IsKept book r 0 0 [] xs due 0) (sym q)
    (subst (λ (xs : List ℕ). IsKept book r 0 0 [] (w, []) xs 0) (sym z) (record {
      pairs = [];
      state = state-initial book r;
      counted = refl;
      width = l;
      cells_made = omega arith;
      below = λ j. tt;
      exact = λ t n h e. absurd (elim h [ inl m ↦ omega arith | inr m ↦ (let y = m.0 in omega arith) ]);
      due_below = tt;
    })))
