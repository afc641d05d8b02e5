-- As many different terms of each node and size as the lower bounds say.
use Rattle.std.proofs.Common.{◌≡◌, ℕ, zero, suc, ◌+◌, ◌-◌, ◌*◌, ◌<◌, ◌≤◌, List, [], ◌∷◌, ◌++◌, length, sym, ap, ◌∙◌, inl, inr, arith, length-append, Bool, true, false}
use Rattle.std.specs.Prelude.{nat_eq, nat_le, nat_lt, ◌&&◌, if◌then◌else◌}
use Rattle.std.specs.List.{flat_map}
use Rattle.std.proofs.lemmas.Bool.{cases_lt}
use Rattle.std.proofs.lemmas.Bool.Decides.{nat_tests}
use Rattle.cls_base.specs.Terms.{Applicative, component, apply, length_of, size_of, head_of, argument_count}
use Rattle.cls_base.specs.declared.rule.Rule.{Rule}
use Rattle.cls_base.specs.declared.rule.Rule.TheVariants.{Head, Any}
use Rattle.cls_base.specs.Languages.{rules_at}
use Rattle.cls_base.specs.Lists.{AreDistinct}
use Rattle.cls_enum.specs.Candidates.{over, fills, rule_terms, candidates, IsInCell}
use Rattle.cls_enum.specs.Members.{IsIn}
use Rattle.cls_enum.proofs.CellLaws.{candidates_exact}
use Rattle.cls_enum.proofs.Counting.{no_more_than, once-append}
use Rattle.cls_enum.proofs.Members.{in_over, in_flat_map, flat_map_in, in_cases}
use Rattle.cls_walk.specs.Counts.{HeadRule, heads_of, pairs_of, runs, greatest, ways, head_ways, head_ways_if, pair_ways, sure_ways, up_to_64, lo_below, AtLeast}
use Rattle.cls_walk.specs.Orders.{IsOrdered}
use Rattle.cls_walk.proofs.Lists.{once-flat_map, length-flat_map_least, once-over, length-over_least, each_once}
use Rattle.cls_walk.proofs.Counts.{chosen, chosen_both, times-more, leaf-least, cell_below, once-below, exact-below}
use Rattle.cls_walk.proofs.Runs.{runs-shown, greatest-shown}

-- the term without its last argument, without so many arguments, and the last argument
function_of : Applicative → Applicative
function_of (component x) = component x
function_of (apply f a) = f

argument_of : Applicative → Applicative
argument_of (component x) = component x
argument_of (apply f a) = a

peeled : ℕ → Applicative → Applicative
peeled zero e = e
peeled (suc k) e = function_of (peeled k e)

pub length-size : (cost : ℕ → ℕ) → ((x : ℕ) → 1 ≤ cost x) → (e : Applicative) → length_of e ≤ size_of cost e
length-size cost positive (component x) = positive x
length-size cost positive (apply f a) = omega (arith, length-size cost positive f, length-size cost positive a)

one_if : (b : Bool) (f e : Applicative) → IsIn (if b then f ∷ [] else []) e → f ≡ e
one_if true f e (inl p) = p
one_if true f e (inr h) = absurd h
one_if false f e h = absurd h

once-leaf : (b : Bool) (f : Applicative) → AreDistinct (if b then f ∷ [] else [])
once-leaf true f = ((λ c. omega (arith, c.1)), tt)
once-leaf false f = tt

apply-argument : (f a b : Applicative) → apply f a ≡ apply f b → a ≡ b
unfolding argument_of
apply-argument f a b p = ap argument_of p

module _ (cell : ℕ → ℕ → List Applicative) where
  -- what is found is of the function that it began with
  fills-peeled : (ns : List ℕ) (f e : Applicative) (rest : ℕ) → IsIn (fills cell f ns rest) e → peeled (length ns) e ≡ f
  unfolding peeled function_of
  fills-peeled [] f e rest h = sym (one_if (nat_eq rest 0 && nat_le (length_of f) 64) f e h)
  fills-peeled (n ∷ ns) f e rest h =
      let r = in_over (rest + 1) (λ t. flat_map (λ a. fills cell (apply f a) ns (rest - t)) (cell t n)) e h in
      let q = in_flat_map (λ a. fills cell (apply f a) ns (rest - r.0)) (cell r.0 n) e r.2 in
      ap function_of (fills-peeled ns (apply f q.0) e (rest - r.0) q.2)

  fills-kind : (ns : List ℕ) (f e : Applicative) (rest : ℕ) → IsIn (fills cell f ns rest) e → (head_of e ≡ head_of f) × (argument_count e ≡ argument_count f + length ns)
  fills-kind [] f e rest h =
      let p = one_if (nat_eq rest 0 && nat_le (length_of f) 64) f e h in
      (ap head_of (sym p), omega (arith, ap argument_count p))
  fills-kind (n ∷ ns) f e rest h =
      let r = in_over (rest + 1) (λ t. flat_map (λ a. fills cell (apply f a) ns (rest - t)) (cell t n)) e h in
      let q = in_flat_map (λ a. fills cell (apply f a) ns (rest - r.0)) (cell r.0 n) e r.2 in
      let k = fills-kind ns (apply f q.0) e (rest - r.0) q.2 in
      (k.0, omega (arith, k.1))

  module _ (cost : ℕ → ℕ) (sized : (t n : ℕ) (e : Applicative) → IsIn (cell t n) e → size_of cost e ≡ t) (once : (t n : ℕ) → AreDistinct (cell t n)) where
    -- a function applied to one more term each
    fills-once : (ns : List ℕ) (f : Applicative) (rest : ℕ) → AreDistinct (fills cell f ns rest)
    fills-once [] f rest = once-leaf (nat_eq rest 0 && nat_le (length_of f) 64) f
    fills-once (n ∷ ns) f rest =
        once-over (λ t. flat_map (λ a. fills cell (apply f a) ns (rest - t)) (cell t n)) (rest + 1)
        (λ t l. once-flat_map (λ a. fills cell (apply f a) ns (rest - t)) (cell t n) (once t n) (λ a i. fills-once ns (apply f a) (rest - t))
        (λ a b e i j k m. apply-argument f a b (sym (fills-peeled ns (apply f a) e (rest - t) k) ∙ fills-peeled ns (apply f b) e (rest - t) m)))
        (λ t u e l m i j.
        let p = in_flat_map (λ a. fills cell (apply f a) ns (rest - t)) (cell t n) e i in
        let q = in_flat_map (λ a. fills cell (apply f a) ns (rest - u)) (cell u n) e j in
        let z = apply-argument f p.0 q.0 (sym (fills-peeled ns (apply f p.0) e (rest - t) p.2) ∙ fills-peeled ns (apply f q.0) e (rest - u) q.2) in
        sym (sized t n p.0 p.1) ∙ ap (size_of cost) z ∙ sized u n q.0 q.1)

    pair-once : (s l m : ℕ) → AreDistinct (over s (λ t. flat_map (λ f. fills cell f (m ∷ []) (s - t)) (cell t l)))
    pair-once s l m =
        once-over (λ t. flat_map (λ f. fills cell f (m ∷ []) (s - t)) (cell t l)) s
        (λ t k. once-flat_map (λ f. fills cell f (m ∷ []) (s - t)) (cell t l) (once t l) (λ f i. fills-once (m ∷ []) f (s - t))
        (λ f g e i j k o. sym (fills-peeled (m ∷ []) f e (s - t) k) ∙ fills-peeled (m ∷ []) g e (s - t) o))
        (λ t u e k o i j.
        let p = in_flat_map (λ f. fills cell f (m ∷ []) (s - t)) (cell t l) e i in
        let q = in_flat_map (λ f. fills cell f (m ∷ []) (s - u)) (cell u l) e j in
        let z = sym (fills-peeled (m ∷ []) p.0 e (s - t) p.2) ∙ fills-peeled (m ∷ []) q.0 e (s - u) q.2 in
        sym (sized t l p.0 p.1) ∙ ap (size_of cost) z ∙ sized u l q.0 q.1)

    module _ (positive : (x : ℕ) → 1 ≤ cost x) (count : ℕ → ℕ → ℕ) (no_fewer : (t n : ℕ) → count t n ≤ length (cell t n)) where
      fills-least : (ns : List ℕ) (f : Applicative) (rest : ℕ) → size_of cost f + rest ≤ 64 → ways count ns rest ≤ length (fills cell f ns rest)
      fills-least [] f rest l = leaf-least (nat_eq rest 0) (nat_le (length_of f) 64) f (let k = length-size cost positive f in grind (arith, nat_tests))
      fills-least (n ∷ ns) f rest l = length-over_least (λ t. flat_map (λ a. fills cell (apply f a) ns (rest - t)) (cell t n)) (rest + 1) (λ t. count t n * ways count ns (rest - t)) (λ t k.
          let a = length-flat_map_least (λ a. fills cell (apply f a) ns (rest - t)) (cell t n) (ways count ns (rest - t)) (λ a i. fills-least ns (apply f a) (rest - t) (let z = sized t n a i in omega arith)) in
          let b = times-more (count t n) (length (cell t n)) (ways count ns (rest - t)) (no_fewer t n) in
          omega (arith, a, b))

      head-least : (s : ℕ) (h : HeadRule) → s ≤ 64 → head_ways count cost s h ≤ length (rule_terms cell cost s (Head h.0 h.1))
      head-least s h l = chosen_both (λ (k : ℕ) (es : List Applicative). k ≤ length es) (nat_le (cost h.0) s) (ways count h.1 (s - cost h.0)) 0 (fills cell (component h.0) h.1 (s - cost h.0)) []
          (λ p. let z : cost h.0 ≤ s = grind (arith, nat_tests) in fills-least h.1 (component h.0) (s - cost h.0) (omega arith))
          (λ p. omega arith)

      pair-least : (s : ℕ) (p : ℕ × ℕ) → s ≤ 64 → pair_ways count s p ≤ length (rule_terms cell cost s (Any p.0 p.1))
      pair-least s p l = length-over_least (λ t. flat_map (λ f. fills cell f (p.1 ∷ []) (s - t)) (cell t p.0)) s (λ t. count t p.0 * ways count (p.1 ∷ []) (s - t)) (λ t k.
          let a = length-flat_map_least (λ f. fills cell f (p.1 ∷ []) (s - t)) (cell t p.0) (ways count (p.1 ∷ []) (s - t)) (λ f i. fills-least (p.1 ∷ []) f (s - t) (let z = sized t p.0 f i in omega arith)) in
          let b = times-more (count t p.0) (length (cell t p.0)) (ways count (p.1 ∷ []) (s - t)) (no_fewer t p.0) in
          omega (arith, a, b))

    head-once : (s : ℕ) (h : HeadRule) → AreDistinct (rule_terms cell cost s (Head h.0 h.1))
    head-once s h = chosen (λ (es : List Applicative). AreDistinct es) (nat_le (cost h.0) s) (fills cell (component h.0) h.1 (s - cost h.0)) [] (λ p. fills-once h.1 (component h.0) (s - cost h.0)) (λ p. tt)

  head-kind : (cost : ℕ → ℕ) (s : ℕ) (h : HeadRule) (e : Applicative) → IsIn (rule_terms cell cost s (Head h.0 h.1)) e → (head_of e ≡ h.0) × (argument_count e ≡ length h.1)
  head-kind cost s h e = chosen (λ (es : List Applicative). IsIn es e → (head_of e ≡ h.0) × (argument_count e ≡ length h.1)) (nat_le (cost h.0) s) (fills cell (component h.0) h.1 (s - cost h.0)) []
      (λ p i. let k = fills-kind h.1 (component h.0) e (s - cost h.0) i in (k.0, omega (arith, k.1)))
      (λ p i. absurd i)

  pair-applied : (cost : ℕ → ℕ) (s : ℕ) (p : ℕ × ℕ) (e : Applicative) → IsIn (rule_terms cell cost s (Any p.0 p.1)) e → 1 ≤ argument_count e
  pair-applied cost s p e i =
      let r = in_over s (λ t. flat_map (λ f. fills cell f (p.1 ∷ []) (s - t)) (cell t p.0)) e i in
      let q = in_flat_map (λ f. fills cell f (p.1 ∷ []) (s - r.0)) (cell r.0 p.0) e r.2 in
      let k = fills-kind (p.1 ∷ []) q.0 e (s - r.0) q.2 in
      omega (arith, k.1)

pub heads-rule : (rs : List (Rule ℕ)) (h : HeadRule) → IsIn (heads_of rs) h → IsIn rs (Head h.0 h.1)
heads-rule [] h i = absurd i
heads-rule (Head x ns ∷ rs) h (inl p) = inl (λ i. Head (p i).0 (p i).1)
heads-rule (Head x ns ∷ rs) h (inr i) = inr (heads-rule rs h i)
heads-rule (Any l m ∷ rs) h i = inr (heads-rule rs h i)

pub pairs-rule : (rs : List (Rule ℕ)) (p : ℕ × ℕ) → IsIn (pairs_of rs) p → IsIn rs (Any p.0 p.1)
pairs-rule [] p i = absurd i
pairs-rule (Head x ns ∷ rs) p i = inr (pairs-rule rs p i)
pairs-rule (Any l m ∷ rs) p (inl q) = inl (λ i. Any (q i).0 (q i).1)
pairs-rule (Any l m ∷ rs) p (inr i) = inr (pairs-rule rs p i)

module _ (book : List (List (Rule ℕ))) (cost : ℕ → ℕ) (positive : (x : ℕ) → 1 ≤ cost x) (ordered : IsOrdered book) where
  sized-below : (s t n : ℕ) (e : Applicative) → IsIn (cell_below book cost s t n) e → size_of cost e ≡ t
  sized-below s t n e i = elim (cases_lt t s) [
    | inl l ↦ ((exact-below book cost positive s t l n e).0 i).1
    | inr l ↦ absurd (past s t n e l i)
  ]
    where
      past : (s t n : ℕ) (e : Applicative) → s ≤ t → IsIn (cell_below book cost s t n) e → ⊥
      past zero t n e l = λ i. i
      past (suc s) t n e l = chosen (λ (xs : List Applicative). IsIn xs e → ⊥) (nat_eq t s) (each_once (candidates (cell_below book cost s) cost s (rules_at book n))).0 (cell_below book cost s t n)
          (λ p. absurd (grind (arith, nat_tests)))
          (λ p. past s t n e (omega arith))

  module _ (s n : ℕ) (count : ℕ → ℕ → ℕ) (no_fewer : (t m : ℕ) → count t m ≤ length (cell_below book cost s t m)) (l : s ≤ 64) where
    abbrev rs : List (Rule ℕ)
    rs = rules_at book n

    abbrev cell : ℕ → ℕ → List Applicative
    cell = cell_below book cost s

    abbrev Shown : (Applicative → Type 0) → ℕ → Type 0
    Shown P k = (es : List Applicative) × AreDistinct es × (k ≤ length es) × ((e : Applicative) → IsIn es e → P e)

    in_rule : (r : Rule ℕ) (e : Applicative) → IsIn rs r → IsIn (rule_terms cell cost s r) e → IsInCell book cost n s e
    in_rule r e i j = (candidates_exact book cost positive cell s (exact-below book cost positive s) n e).0 (flat_map_in (rule_terms cell cost s) rs e r i j)

    heads-shown : Shown (IsInCell book cost n s) (runs (head_ways_if count cost s false) (heads_of rs))
    heads-shown = runs-shown (head_ways_if count cost s false) (IsInCell book cost n s) (heads_of rs)
        (λ h i. (
          rule_terms cell cost s (Head h.0 h.1),
          head-once cell cost (sized-below s) (once-below book cost s) s h,
          head-least cell cost (sized-below s) (once-below book cost s) positive count no_fewer s h l,
          (λ e j. (in_rule (Head h.0 h.1) e (heads-rule rs h i) j, head-kind cell cost s h e j)),
        ))
        (ordered n)

    abbrev IsAlone : Applicative → Type 0
    IsAlone e = IsInCell book cost n s e × (argument_count e ≡ 0)

    abbrev AloneShown : HeadRule → ℕ → Type 0
    AloneShown h k = (es : List Applicative) × AreDistinct es × (k ≤ length es) × ((e : Applicative) → IsIn es e → IsAlone e × ((head_of e ≡ h.0) × (argument_count e ≡ length h.1)))

    alone-shown : Shown IsAlone (runs (head_ways_if count cost s true) (heads_of rs))
    alone-shown = runs-shown (head_ways_if count cost s true) IsAlone (heads_of rs)
        (λ h i. chosen (λ (k : ℕ). AloneShown h k) (true && nat_lt 0 (length h.1)) 0 (head_ways count cost s h)
        (λ p. ([], tt, omega arith, (λ e j. absurd j)))
        (λ p.
        let z : length h.1 ≡ 0 = grind (arith, nat_tests) in (
          rule_terms cell cost s (Head h.0 h.1),
          head-once cell cost (sized-below s) (once-below book cost s) s h,
          head-least cell cost (sized-below s) (once-below book cost s) positive count no_fewer s h l,
          (λ e j. let k = head-kind cell cost s h e j in ((in_rule (Head h.0 h.1) e (heads-rule rs h i) j, k.1 ∙ z), k)),
        )))
        (ordered n)

    pairs-shown : Shown (λ e. IsInCell book cost n s e × (1 ≤ argument_count e)) (greatest (pair_ways count s) (pairs_of rs))
    pairs-shown = greatest-shown (pair_ways count s) (λ e. IsInCell book cost n s e × (1 ≤ argument_count e)) (pairs_of rs) (λ p i. (
      rule_terms cell cost s (Any p.0 p.1),
      pair-once cell cost (sized-below s) (once-below book cost s) s p.0 p.1,
      pair-least cell cost (sized-below s) (once-below book cost s) positive count no_fewer s p l,
      (λ e j. (in_rule (Any p.0 p.1) e (pairs-rule rs p i) j, pair-applied cell cost s p e j)),
    ))

    sure-shown : Shown (IsInCell book cost n s) (sure_ways count cost s rs)
    sure-shown =
        let a = heads-shown in
        let b = alone-shown in
        let c = pairs-shown in
        let k = runs (head_ways_if count cost s false) (heads_of rs) in
        let m = runs (head_ways_if count cost s true) (heads_of rs) + greatest (pair_ways count s) (pairs_of rs) in
        let both : Shown (IsInCell book cost n s) m = (
          b.0 ++ c.0,
          once-append b.0 c.0 b.1 c.1 (λ e i j. let p = (b.3 e i).1 in let q = (c.3 e j).1 in omega arith),
          (let p = b.2 in let q = c.2 in omega (arith, length-append b.0 c.0)),
          (λ e i. elim (in_cases b.0 c.0 e i) [ inl j ↦ (b.3 e j).0 | inr j ↦ (c.3 e j).0 ]),
        ) in
        elim (cases_lt k m) [
          | inl z ↦ (both.0, both.1, (let p = both.2 in omega arith), both.3)
          | inr z ↦ (a.0, a.1, (let p = a.2 in omega arith), a.3)
        ]

  pub least-below : (s t n : ℕ) → lo_below book cost s t n ≤ length (cell_below book cost s t n)
  least-below zero t n = omega arith
  least-below (suc s) t n = chosen_both (λ (k : ℕ) (es : List Applicative). k ≤ length es) (nat_eq t s)
      (up_to_64 s (sure_ways (lo_below book cost s) cost s (rules_at book n))) (lo_below book cost s t n)
      (each_once (candidates (cell_below book cost s) cost s (rules_at book n))).0 (cell_below book cost s t n)
      (λ p.
      let o = each_once (candidates (cell_below book cost s) cost s (rules_at book n)) in
      chosen (λ (k : ℕ). k ≤ length o.0) (nat_le s 64) (sure_ways (lo_below book cost s) cost s (rules_at book n)) 0
      (λ q.
      let w = sure-shown s n (lo_below book cost s) (least-below s) (grind (arith, nat_tests)) in
      let a = no_more_than w.0 o.0 w.1 (λ e i. (o.2 e).1 ((candidates_exact book cost positive (cell_below book cost s) s (exact-below book cost positive s) n e).1 (w.3 e i))) in
      let b = w.2 in
      omega (arith, a, b))
      (λ q. omega arith))
      (λ p. least-below s t n)

  -- there is a list of as many different terms of the node and size
  pub at_least : (s t n : ℕ) → t < s → AtLeast book cost t n (lo_below book cost s t n)
  at_least s t n l = (
    cell_below book cost s t n,
    record { different = once-below book cost s t n; terms = λ e i. (exact-below book cost positive s t l n e).0 i },
    least-below s t n,
  )
