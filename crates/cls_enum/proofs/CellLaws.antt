-- The candidates of a node and a size are exactly its terms of this size that may stand on a page.
use Rattle.std.proofs.Common.{◌≡◌, ℕ, zero, suc, get_or, ◌+◌, ◌-◌, ◌<◌, ◌≤◌, List, [], ◌∷◌, ◌++◌, refl, sym, ap, subst, inl, inr, arith, Bool, true, false, length}
use Rattle.std.specs.Prelude.{◌↔◌, nat_le, nat_eq, if◌then◌else◌, ◌&&◌, slice_index, slice_index_or}
use Rattle.std.specs.List.{flat_map}
use Rattle.std.proofs.lemmas.Bool.Decides.{nat_tests}
use Rattle.std.proofs.lemmas.Bool.{cases_lt}
use Rattle.std.proofs.lemmas.List.{get_or_past}
use Rattle.cls_base.specs.Terms.{Applicative, component, apply, length_of, size_of}
use Rattle.cls_base.specs.declared.rule.Rule.{Rule}
use Rattle.cls_base.specs.declared.rule.Rule.TheVariants.{Head, Any}
use Rattle.cls_base.specs.Languages.{by_head, by_any, Applies, done, next, NodeRule, IsGenerated, rules_at}
use Rattle.cls_enum.specs.Candidates.{over, fills, rule_terms, candidates, IsInCell}
use Rattle.cls_enum.specs.Members.{IsIn}
use Rattle.cls_enum.specs.Plans.{nodes_of, rule_of, rules_of, IsPlan, places_of, ArePruned, AreBounds, AreReady, plan_terms, plan_candidates, PlansPruned}
use Rattle.cls_enum.specs.declared.plan.Place.{Place}
use Rattle.cls_enum.specs.declared.plan.Plan.{Plan}
use Rattle.cls_enum.specs.declared.plan.Plan.TheVariants.{Head, Any}
use Rattle.cls_enum.proofs.Members.{in_from, in_to, in_over, over_in, in_flat_map, flat_map_in, none_in}

-- what passes a test, alone
one_if : {A : Type 0} (b : Bool) (f e : A) → IsIn (if b then f ∷ [] else []) e → (b ≡ true) × (f ≡ e)
one_if true f e (inl p) = (refl, p)
one_if true f e (inr h) = absurd h
one_if false f e h = absurd h

if_one : {A : Type 0} (b : Bool) (f : A) → b ≡ true → IsIn (if b then f ∷ [] else []) f
if_one true f p = inl refl
if_one false f p = absurd (cc)

in_if : {A : Type 0} (b : Bool) (xs : List A) (e : A) → IsIn (if b then xs else []) e → (b ≡ true) × IsIn xs e
in_if true xs e h = (refl, h)
in_if false xs e h = absurd h

if_in : {A : Type 0} (b : Bool) (xs : List A) (e : A) → b ≡ true → IsIn xs e → IsIn (if b then xs else []) e
if_in true xs e p h = h
if_in false xs e p h = absurd (cc)

both_pass : (rest n : ℕ) → (nat_eq rest 0 && nat_le n 64) ≡ true → (rest ≡ 0) × (n ≤ 64)
both_pass rest n p = (grind (arith, nat_tests), grind (arith, nat_tests))

pass_both : (rest n : ℕ) → rest ≡ 0 → n ≤ 64 → (nat_eq rest 0 && nat_le n 64) ≡ true
pass_both rest n p q = grind (arith, nat_tests)

le_passes : (m n : ℕ) → m ≤ n → nat_le m n ≡ true
le_passes m n p = grind (arith, nat_tests)

passes_le : (m n : ℕ) → nat_le m n ≡ true → m ≤ n
passes_le m n p = grind (arith, nat_tests)

-- what is found is as long as what it begins with, and not too long
pub fills-longer : (cell : ℕ → ℕ → List Applicative) (ns : List ℕ) (f e : Applicative) (rest : ℕ) → IsIn (fills cell f ns rest) e → (length_of f ≤ length_of e) × (length_of e ≤ 64)
fills-longer cell [] f e rest h =
    let o = one_if (nat_eq rest 0 && nat_le (length_of f) 64) f e h in
    let b = both_pass rest (length_of f) o.0 in
    (omega (arith, ap length_of o.1), omega (arith, ap length_of o.1, b.1))
fills-longer cell (n ∷ ns) f e rest h =
    let r = in_over (rest + 1) (λ t. flat_map (λ a. fills cell (apply f a) ns (rest - t)) (cell t n)) e h in
    let q = in_flat_map (λ a. fills cell (apply f a) ns (rest - r.0)) (cell r.0 n) e r.2 in
    let i = fills-longer cell ns (apply f q.0) e (rest - r.0) q.2 in
    (omega (arith, i.0), i.1)

module _ (cost : ℕ → ℕ) (positive : (x : ℕ) → 1 ≤ cost x) where
  pub costs_something : (e : Applicative) → 1 ≤ size_of cost e
  costs_something (component x) = positive x
  costs_something (apply f a) = omega (arith, costs_something f)

module _ (book : List (List (Rule ℕ))) (cost : ℕ → ℕ) where
  -- what is applied is no larger
  pub applied_size : {f e : Applicative} {ns : List ℕ} → Applies ℕ (NodeRule book) f ns e → size_of cost f ≤ size_of cost e
  applied_size done = omega arith
  applied_size (next g h) = omega (arith, applied_size h)

  pub applied_length : {f e : Applicative} {ns : List ℕ} → Applies ℕ (NodeRule book) f ns e → length_of f ≤ length_of e
  applied_length done = omega arith
  applied_length (next g h) = omega (arith, applied_length h)

  applied_to_one : {i l m : ℕ} {f e : Applicative} → NodeRule book i (Any l m) → IsGenerated book l f → Applies ℕ (NodeRule book) f (m ∷ []) e → IsGenerated book i e
  applied_to_one c g (next h done) = by_any c g h

module _ (book : List (List (Rule ℕ))) (cost : ℕ → ℕ) (positive : (x : ℕ) → 1 ≤ cost x) (cell : ℕ → ℕ → List Applicative) (s : ℕ)
    (exact : (t : ℕ) → t < s → (n : ℕ) (e : Applicative) → IsIn (cell t n) e ↔ IsInCell book cost n t e) where
  pub filled : (ns : List ℕ) (f e : Applicative) (rest : ℕ) → rest < s → IsIn (fills cell f ns rest) e → Applies ℕ (NodeRule book) f ns e × (size_of cost e ≡ size_of cost f + rest) × (length_of e ≤ 64)
  filled [] f e rest l h =
      let o = one_if (nat_eq rest 0 && nat_le (length_of f) 64) f e h in
      let b = both_pass rest (length_of f) o.0 in
      let P : Applicative → Type 0 = λ x. Applies ℕ (NodeRule book) f [] x × (size_of cost x ≡ size_of cost f + rest) × (length_of x ≤ 64) in
      subst P o.1 (done, omega arith, b.1)
  filled (n ∷ ns) f e rest l h =
      let r = in_over (rest + 1) (λ t. flat_map (λ a. fills cell (apply f a) ns (rest - t)) (cell t n)) e h in
      let t = r.0 in
      let q = in_flat_map (λ a. fills cell (apply f a) ns (rest - t)) (cell t n) e r.2 in
      let a = q.0 in
      let m = (exact t (omega arith) n a).0 q.1 in
      let i = filled ns (apply f a) e (rest - t) (omega arith) q.2 in
      (next m.0 i.0, omega arith, i.2)

  fill : (ns : List ℕ) (f e : Applicative) (rest : ℕ) → rest < s → Applies ℕ (NodeRule book) f ns e → size_of cost e ≡ size_of cost f + rest → length_of e ≤ 64 → IsIn (fills cell f ns rest) e
  fill _ f _ rest l done p k = if_one (nat_eq rest 0 && nat_le (length_of f) 64) f (pass_both rest (length_of f) (omega arith) k)
  fill (n ∷ ns) f e rest l (next {a = a} g h) p k =
      let c = applied_size book cost h in
      let d = applied_length book cost h in
      let t = size_of cost a in
      let i = fill ns (apply f a) e (rest - t) (omega arith) h (omega arith) k in
      let m = (exact t (omega arith) n a).1 (g, refl, omega arith) in
      over_in (rest + 1) (λ u. flat_map (λ b. fills cell (apply f b) ns (rest - u)) (cell u n)) e t (omega arith) (flat_map_in (λ b. fills cell (apply f b) ns (rest - t)) (cell t n) e a m i)

  made : (r : Rule ℕ) (i : ℕ) (e : Applicative) → NodeRule book i r → IsIn (rule_terms cell cost s r) e → IsInCell book cost i s e
  made (Head x ns) i e c h =
      let o = in_if (nat_le (cost x) s) (fills cell (component x) ns (s - cost x)) e h in
      let l = passes_le (cost x) s o.0 in
      let p = positive x in
      let r = filled ns (component x) e (s - cost x) (omega arith) o.1 in
      (by_head c r.0, omega arith, r.2)
  made (Any l m) i e c h =
      let r = in_over s (λ t. flat_map (λ f. fills cell f (m ∷ []) (s - t)) (cell t l)) e h in
      let t = r.0 in
      let q = in_flat_map (λ f. fills cell f (m ∷ []) (s - t)) (cell t l) e r.2 in
      let f = q.0 in
      let g = (exact t r.1 l f).0 q.1 in
      let p = costs_something cost positive f in
      let z = g.1 in
      let b = filled (m ∷ []) f e (s - t) (omega arith) q.2 in
      (applied_to_one book cost c g.0 b.0, omega arith, b.2)

  make : (i : ℕ) (e : Applicative) → IsGenerated book i e → size_of cost e ≡ s → length_of e ≤ 64 → IsIn (candidates cell cost s (rules_at book i)) e
  make i e (by_head {x = x} {ns = ns} c h) p k =
      let l = applied_size book cost h in
      let o = positive x in
      let n = fill ns (component x) e (s - cost x) (omega arith) h (omega arith) k in
      flat_map_in (rule_terms cell cost s) (rules_at book i) e (Head x ns) (in_from (rules_at book i) (Head x ns) c)
      (if_in (nat_le (cost x) s) (fills cell (component x) ns (s - cost x)) e (le_passes (cost x) s (omega arith)) n)
  make i e (by_any {l = l} {m = m} {f = f} {a = a} c g h) p k =
      let o = costs_something cost positive f in
      let q = costs_something cost positive a in
      let t = size_of cost f in
      let b = (exact t (omega arith) l f).1 (g, refl, omega arith) in
      let n = fill (m ∷ []) f (apply f a) (s - t) (omega arith) (next h done) (omega arith) k in
      flat_map_in (rule_terms cell cost s) (rules_at book i) e (Any l m) (in_from (rules_at book i) (Any l m) c)
      (over_in s (λ u. flat_map (λ d. fills cell d (m ∷ []) (s - u)) (cell u l)) e t (omega arith)
      (flat_map_in (λ d. fills cell d (m ∷ []) (s - t)) (cell t l) e f b n))

  -- the candidates of a node are its terms of this size
  pub candidates_exact : (i : ℕ) (e : Applicative) → IsIn (candidates cell cost s (rules_at book i)) e ↔ IsInCell book cost i s e
  candidates_exact i e = (
    (λ h.
        let r = in_flat_map (rule_terms cell cost s) (rules_at book i) e h in
        made r.0 i e (in_to (rules_at book i) r.0 r.1) r.2),
    (λ h. make i e h.0 h.1 h.2),
  )

  -- bounds on the lengths of what is generated serve for what is found
  pub pruned_by_bounds : (places : List Place) → AreBounds book cost s places → ArePruned cell places
  pruned_by_bounds [] h = tt
  pruned_by_bounds (p ∷ places) h = (
    (λ rest f l. none_in (fills cell f (p.node ∷ nodes_of places) rest) (λ e i. elim (cases_lt rest s) [
      | inl m ↦
          let q = filled (p.node ∷ nodes_of places) f e rest m i in
          elim (h.1 rest f e q.0 q.1) [ inl z ↦ (let y = q.2 in omega (arith, y, z, l)) | inr z ↦ (let y = q.2 in omega (arith, y, z)) ]
      | inr m ↦
          let y : slice_index p.least.items rest ≡ 0 = get_or_past p.least.items rest 0 (omega (arith, h.0, m)) in
          let q = fills-longer cell (p.node ∷ nodes_of places) f e rest i in
          omega (arith, y, q.0, q.1, l)
    ])),
    pruned_by_bounds places h.2,
  )

  pub plans_pruned : (plans : List Plan) → AreReady book cost s plans → PlansPruned cell plans
  plans_pruned [] h = tt
  plans_pruned (p ∷ plans) h = (pruned_by_bounds (places_of p) h.0.bounds, plans_pruned plans h.1)

one_node : (places : List Place) → length places ≡ 1 → nodes_of places ≡ slice_index_or (nodes_of places) 0 0 ∷ []
one_node [] l = absurd (omega arith)
one_node (p ∷ []) l = refl
one_node (p ∷ q ∷ places) l = absurd (omega arith)

plan_terms-rule : (cell : ℕ → ℕ → List Applicative) (cost : ℕ → ℕ) (s : ℕ) (p : Plan) → IsPlan cost p → plan_terms cell s p ≡ rule_terms cell cost s (rule_of p)
plan_terms-rule cell cost s (Head x c places) h = ap (λ (d : ℕ). if nat_le d s then fills cell (component x) (nodes_of places.items) (s - d) else []) h
plan_terms-rule cell cost s (Any l places) h = ap (λ (ns : List ℕ). over s (λ t. flat_map (λ f. fills cell f ns (s - t)) (cell t l))) (one_node places.items h)

-- plans make what their rules make
pub plan_candidates-rules : (book : List (List (Rule ℕ))) (cell : ℕ → ℕ → List Applicative) (cost : ℕ → ℕ) (s : ℕ) (plans : List Plan) → AreReady book cost s plans → plan_candidates cell s plans ≡ candidates cell cost s (rules_of plans)
plan_candidates-rules book cell cost s [] h = refl
plan_candidates-rules book cell cost s (p ∷ plans) h = λ i. plan_terms-rule cell cost s p h.0.planned i ++ plan_candidates-rules book cell cost s plans h.1 i

pub PlansPruned-at : (cell : ℕ → ℕ → List Applicative) (plans : List Plan) (i : ℕ) (p : Plan) → PlansPruned cell plans → i < length plans → p ≡ get_or plans i p → ArePruned cell (places_of p)
PlansPruned-at cell [] i p h l e = absurd (omega arith)
PlansPruned-at cell (q ∷ plans) zero p h l e = let P : Plan → Type 0 = λ x. ArePruned cell (places_of x) in subst P (sym e) h.0
PlansPruned-at cell (q ∷ plans) (suc i) p h l e = PlansPruned-at cell plans i p h.1 (omega arith) e
