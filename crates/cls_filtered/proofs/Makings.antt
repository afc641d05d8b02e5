-- Rules that are made one after another, and the room that is left.
use Rattle.std.proofs.Common.{◌≡◌, ℕ, zero, suc, ◌+◌, ◌-◌, ◌<◌, ◌≤◌, Bool, true, false, cond, ◌&&◌, List, [], ◌∷◌, ◌++◌, Some, None, length, map, take, drop, get_or, refl, sym, ap, subst, ◌∙◌, arith, append_assoc, append-nil, length-append, take-append-drop}
use Rattle.std.specs.Prelude.{filter}
use Rattle.std.specs.List.{flat_map}
use Rattle.std.proofs.lemmas.List.{flat_map_more, map_more, map-append, take_all, take-map}
use Rattle.std.proofs.lemmas.List.Concat.{flat_map-append}
use Rattle.std.proofs.lemmas.List.Elements.{filter_more, filter-append}
use Rattle.std.proofs.lemmas.List.Sums.{sum_by-cons}
use Rattle.cls_base.specs.declared.rule.Rule.{Rule}
use Rattle.cls_base.specs.declared.rule.Rule.TheVariants.{Any}
use Rattle.cls_base.specs.Limits.{max_states}
use Rattle.cls_filter.specs.Automata.{Automaton, is_accepting}
use Rattle.cls_filtered.specs.declared.step.Step.{Step}
use Rattle.cls_filtered.specs.Filtered.{below, is_kept, node_of, are_kept, state_rules, rules_to, start_rules, rule_total}
use Rattle.cls_filtered.specs.Makings.{MadeRules, IsMade, IsTooMuch, kept_node, applied_to, applied, applications, AreMade, chosen}
use Rattle.cls_filtered.specs.StepBooks.{step_rule}
use Rattle.cls_filtered.proofs.Leading.{below-next}

pub made-none : (s : MadeRules) → IsMade [] s s
made-none s = record { rules = sym (append-nil s.rules); room = omega arith }

pub made-then : (rs qs : List (Rule ℕ)) (s t u : MadeRules) → IsMade rs s t → IsMade qs t u → IsMade (rs ++ qs) s u
made-then rs qs s t u h k = record {
  rules = k.rules ∙ (ap (λ (x : List (Rule ℕ)). x ++ qs) h.rules ∙ append_assoc s.rules rs qs);
  room = omega (arith, h.room, k.room, length-append rs qs);
}

-- what there is no room for, there is none for with more behind it, and none for behind what is made
pub much-more : (rs qs : List (Rule ℕ)) (s : MadeRules) → IsTooMuch rs s → IsTooMuch (rs ++ qs) s
much-more rs qs s h = omega (arith, h, length-append rs qs)

pub much-then : (rs qs : List (Rule ℕ)) (s t : MadeRules) → IsMade rs s t → IsTooMuch qs t → IsTooMuch (rs ++ qs) s
much-then rs qs s t h k = omega (arith, h.room, k, length-append rs qs)

-- a list of rules of items, item by item
module _ {A : Type 0} (f : A → List (Rule ℕ)) where
  items-append : (xs ys : List A) → flat_map f (xs ++ ys) ≡ flat_map f xs ++ flat_map f ys
  items-append [] ys = refl
  items-append (x ∷ xs) ys = ap (λ (rs : List (Rule ℕ)). f x ++ rs) (items-append xs ys) ∙ sym (append_assoc (f x) (flat_map f xs) (flat_map f ys))

  -- the first items make no more than all
  pub items-front : (xs : List A) (n : ℕ) → length (flat_map f (take n xs)) ≤ length (flat_map f xs)
  items-front xs n =
      let whole = ap (λ (ys : List A). length (flat_map f ys)) (take-append-drop n xs) in
      let parts = ap (λ (rs : List (Rule ℕ)). length rs) (items-append (take n xs) (drop n xs)) in
      omega (arith, whole, parts, length-append (flat_map f (take n xs)) (flat_map f (drop n xs)))

module _ (a : Automaton) (flags : List Bool) where
  -- one step more, and all of them
  pub steps-next : (q : ℕ) (steps : List Step) (i : ℕ) (d : Step) → i < length steps → rules_to a flags (map step_rule (take (i + 1) steps)) q ≡ rules_to a flags (map step_rule (take i steps)) q ++ state_rules a flags q (step_rule (get_or steps i d))
  steps-next q steps i d l =
      ap (λ (rs : List (Rule ℕ)). rules_to a flags rs q) (map_more step_rule steps i d l)
      ∙ sym (flat_map_more (state_rules a flags q) [] (map step_rule (take i steps)) (step_rule (get_or steps i d)))

  pub steps-all : (q : ℕ) (steps : List Step) (i : ℕ) → length steps ≤ i → rules_to a flags (map step_rule (take i steps)) q ≡ rules_to a flags (map step_rule steps) q
  steps-all q steps i l = ap (λ (ss : List Step). rules_to a flags (map step_rule ss) q) (take_all i steps l)

  pub made-step : (q : ℕ) (steps : List Step) (i : ℕ) (d : Step) (s t u : MadeRules) → i < length steps → IsMade (rules_to a flags (map step_rule (take i steps)) q) s t → IsMade (state_rules a flags q (step_rule (get_or steps i d))) t u → IsMade (rules_to a flags (map step_rule (take (i + 1) steps)) q) s u
  made-step q steps i d s t u l h k =
      subst (λ (rs : List (Rule ℕ)). IsMade rs s u) (sym (steps-next q steps i d l))
      (made-then (rules_to a flags (map step_rule (take i steps)) q) (state_rules a flags q (step_rule (get_or steps i d))) s t u h k)

  pub much-step : (q : ℕ) (steps : List Step) (i : ℕ) (d : Step) (s t : MadeRules) → i < length steps → IsMade (rules_to a flags (map step_rule (take i steps)) q) s t → IsTooMuch (state_rules a flags q (step_rule (get_or steps i d))) t → IsTooMuch (rules_to a flags (map step_rule steps) q) s
  much-step q steps i d s t l h k =
      let much = much-then (rules_to a flags (map step_rule (take i steps)) q) (state_rules a flags q (step_rule (get_or steps i d))) s t h k in
      let these = ap (λ (rs : List (Rule ℕ)). length rs) (steps-next q steps i d l) in
      let front = items-front (state_rules a flags q) (map step_rule steps) (i + 1) in
      let same = ap (λ (rs : List (Rule ℕ)). length (rules_to a flags rs q)) (take-map step_rule (i + 1) steps) in
      omega (arith, much, these, front, same)

  -- the start, state by state
  state-next : (rs : List (Rule ℕ)) (n : ℕ) → flat_map (rules_to a flags rs) (filter (is_accepting a) (below (n + 1))) ≡ flat_map (rules_to a flags rs) (filter (is_accepting a) (below n)) ++ cond (is_accepting a n) (rules_to a flags rs n) []
  state-next rs n =
      let F = rules_to a flags rs in
      let p = is_accepting a in
      ap (λ (qs : List ℕ). flat_map F (filter p qs)) (below-next n)
      ∙ (ap (flat_map F) (filter-append p (below n) (n ∷ []))
      ∙ (flat_map-append F (filter p (below n)) (cond (p n) (n ∷ []) []) ∙ ap (λ (xs : List (Rule ℕ)). flat_map F (filter p (below n)) ++ xs) (one F (p n))))
    where
      one : (F : ℕ → List (Rule ℕ)) (b : Bool) → flat_map F (cond b (n ∷ []) []) ≡ cond b (F n) []
      one F true = append-nil (F n)
      one F false = refl

  pub made-start : (rs : List (Rule ℕ)) (n : ℕ) (s t u : MadeRules) → IsMade (flat_map (rules_to a flags rs) (filter (is_accepting a) (below n))) s t → IsMade (cond (is_accepting a n) (rules_to a flags rs n) []) t u → IsMade (flat_map (rules_to a flags rs) (filter (is_accepting a) (below (n + 1)))) s u
  made-start rs n s t u h k =
      subst (λ (qs : List (Rule ℕ)). IsMade qs s u) (sym (state-next rs n))
      (made-then (flat_map (rules_to a flags rs) (filter (is_accepting a) (below n))) (cond (is_accepting a n) (rules_to a flags rs n) []) s t u h k)

  start-front : (rs : List (Rule ℕ)) (n m : ℕ) → length (flat_map (rules_to a flags rs) (filter (is_accepting a) (below n))) ≤ length (flat_map (rules_to a flags rs) (filter (is_accepting a) (below (n + m))))
  start-front rs n zero = let same : n + 0 ≡ n = omega arith in let sizes = ap (λ (k : ℕ). length (flat_map (rules_to a flags rs) (filter (is_accepting a) (below k)))) same in omega (arith, sizes)
  start-front rs n (suc m) =
      let one : n + suc m ≡ n + m + 1 = omega arith in
      let sizes = ap (λ (k : ℕ). length (flat_map (rules_to a flags rs) (filter (is_accepting a) (below k)))) one in
      let more = ap (λ (xs : List (Rule ℕ)). length xs) (state-next rs (n + m)) in
      omega (arith, start-front rs n m, sizes, more, length-append (flat_map (rules_to a flags rs) (filter (is_accepting a) (below (n + m)))) (cond (is_accepting a (n + m)) (rules_to a flags rs (n + m)) []))

  pub much-start : (rs : List (Rule ℕ)) (n : ℕ) (s t : MadeRules) → n < max_states → IsMade (flat_map (rules_to a flags rs) (filter (is_accepting a) (below n))) s t → IsTooMuch (cond (is_accepting a n) (rules_to a flags rs n) []) t → IsTooMuch (start_rules a flags rs) s
  much-start rs n s t l h k =
      let much = much-then (flat_map (rules_to a flags rs) (filter (is_accepting a) (below n))) (cond (is_accepting a n) (rules_to a flags rs n) []) s t h k in
      let these = ap (λ (xs : List (Rule ℕ)). length xs) (state-next rs n) in
      let all : n + 1 + (max_states - (n + 1)) ≡ max_states = omega (arith, l) in
      let sizes = ap (λ (m : ℕ). length (flat_map (rules_to a flags rs) (filter (is_accepting a) (below m)))) all in
      omega (arith, much, these, sizes, start-front rs (n + 1) (max_states - (n + 1)))

module _ (flags : List Bool) where
  -- what the number of a pair says
  kept-some : (b : Bool) (n k : ℕ) → Some k ≡ cond b (Some n) None → (b ≡ true) × (k ≡ n)
  kept-some true n k e = (refl, (let h : Some k ≡ Some n = e in cc))
  kept-some false n k e = absurd (let h : Some k ≡ None = e in cc)

  kept-none : (b : Bool) (n : ℕ) → None ≡ cond b (Some n) None → b ≡ false
  kept-none true n e = absurd (let h : None ≡ Some n = e in cc)
  kept-none false n e = refl

  pub applied_to-some : (n m q k : ℕ) → Some k ≡ kept_node flags m q → Any n k ∷ [] ≡ applied_to flags n m q
  applied_to-some n m q k e =
      let u = kept-some (is_kept flags m q) (node_of flags m q) k e in
      (λ j. Any n (u.1 j) ∷ []) ∙ ap (λ (b : Bool). cond b (Any n (node_of flags m q) ∷ []) []) (sym u.0)

  pub applied_to-none : (n m q : ℕ) → None ≡ kept_node flags m q → [] ≡ applied_to flags n m q
  applied_to-none n m q e = ap (λ (b : Bool). cond b (Any n (node_of flags m q) ∷ []) []) (sym (kept-none (is_kept flags m q) (node_of flags m q) e))

  pub applied-some : (l m k : ℕ) (s : ℕ × ℕ) → Some k ≡ kept_node flags l s.0 → applied_to flags k m s.1 ≡ applied flags l m s
  applied-some l m k s e =
      let u = kept-some (is_kept flags l s.0) (node_of flags l s.0) k e in
      ap (λ (n : ℕ). applied_to flags n m s.1) u.1
      ∙ ap (λ (b : Bool). cond (b && is_kept flags m s.1) (Any (node_of flags l s.0) (node_of flags m s.1) ∷ []) []) (sym u.0)

  pub applied-none : (l m : ℕ) (s : ℕ × ℕ) → None ≡ kept_node flags l s.0 → [] ≡ applied flags l m s
  applied-none l m s e =
      ap (λ (b : Bool). cond (b && is_kept flags m s.1) (Any (node_of flags l s.0) (node_of flags m s.1) ∷ []) []) (sym (kept-none (is_kept flags l s.0) (node_of flags l s.0) e))

  -- one pair of states more
  pub pairs-next : (l m : ℕ) (pairs : List (ℕ × ℕ)) (i : ℕ) (d : ℕ × ℕ) → i < length pairs → applications flags l m (take (i + 1) pairs) ≡ applications flags l m (take i pairs) ++ cond (are_kept flags l m (get_or pairs i d)) (Any (node_of flags l (get_or pairs i d).0) (node_of flags m (get_or pairs i d).1) ∷ []) []
  pairs-next l m pairs i d k =
      let make : ℕ × ℕ → Rule ℕ = λ s. Any (node_of flags l s.0) (node_of flags m s.1) in
      let p = are_kept flags l m in
      let x = get_or pairs i d in
      ap (map make) (filter_more p pairs i d k)
      ∙ (map-append make (filter p (take i pairs)) (cond (p x) (x ∷ []) [])
      ∙ ap (λ (rs : List (Rule ℕ)). applications flags l m (take i pairs) ++ rs) (by make x (p x)))
    where
      by : (make : ℕ × ℕ → Rule ℕ) (x : ℕ × ℕ) (b : Bool) → map make (cond b (x ∷ []) []) ≡ cond b (make x ∷ []) []
      by make x true = refl
      by make x false = refl

  pub pairs-all : (l m : ℕ) (pairs : List (ℕ × ℕ)) (i : ℕ) → length pairs ≤ i → applications flags l m (take i pairs) ≡ applications flags l m pairs
  pairs-all l m pairs i k = ap (λ (ps : List (ℕ × ℕ)). applications flags l m ps) (take_all i pairs k)

  pub made-pair : (l m : ℕ) (pairs : List (ℕ × ℕ)) (i : ℕ) (d : ℕ × ℕ) (s t u : MadeRules) → i < length pairs → IsMade (applications flags l m (take i pairs)) s t → IsMade (applied flags l m (get_or pairs i d)) t u → IsMade (applications flags l m (take (i + 1) pairs)) s u
  made-pair l m pairs i d s t u k h g =
      subst (λ (rs : List (Rule ℕ)). IsMade rs s u) (sym (pairs-next l m pairs i d k))
      (made-then (applications flags l m (take i pairs)) (applied flags l m (get_or pairs i d)) s t u h g)

  pairs-front : (l m : ℕ) (pairs : List (ℕ × ℕ)) (n : ℕ) → length (applications flags l m (take n pairs)) ≤ length (applications flags l m pairs)
  pairs-front l m pairs n =
      let make : ℕ × ℕ → Rule ℕ = λ s. Any (node_of flags l s.0) (node_of flags m s.1) in
      let p = are_kept flags l m in
      let xs = take n pairs in
      let ys = drop n pairs in
      let whole = ap (λ (ps : List (ℕ × ℕ)). length (applications flags l m ps)) (take-append-drop n pairs) in
      let parts = ap (λ (ps : List (ℕ × ℕ)). length (map make ps)) (filter-append p xs ys) in
      let mapped = ap (λ (rs : List (Rule ℕ)). length rs) (map-append make (filter p xs) (filter p ys)) in
      omega (arith, whole, parts, mapped, length-append (map make (filter p xs)) (map make (filter p ys)))

  pub much-pair : (l m : ℕ) (pairs : List (ℕ × ℕ)) (i : ℕ) (d : ℕ × ℕ) (s t : MadeRules) → i < length pairs → IsMade (applications flags l m (take i pairs)) s t → IsTooMuch (applied flags l m (get_or pairs i d)) t → IsTooMuch (applications flags l m pairs) s
  much-pair l m pairs i d s t k h g =
      let much = much-then (applications flags l m (take i pairs)) (applied flags l m (get_or pairs i d)) s t h g in
      let these = ap (λ (rs : List (Rule ℕ)). length rs) (pairs-next l m pairs i d k) in
      omega (arith, much, these, pairs-front l m pairs (i + 1))

-- one number more of those that are kept
pub chosen-next : {A : Type 0} (kept : ℕ → Bool) (g : ℕ → A) (qs : List ℕ) (q : ℕ) → chosen kept g (qs ++ q ∷ []) ≡ chosen kept g qs ++ cond (kept q) (g q ∷ []) []
chosen-next {A = A} kept g [] q = by (kept q)
  where
    by : (b : Bool) → cond b (g q ∷ []) [] ≡ [] ++ cond b (g q ∷ []) []
    by true = refl
    by false = refl
chosen-next {A = A} kept g (p ∷ qs) q = at (chosen-next kept g qs q) (kept p)
  where
    at : chosen kept g (qs ++ q ∷ []) ≡ chosen kept g qs ++ cond (kept q) (g q ∷ []) [] → (b : Bool) → cond b (g p ∷ chosen kept g (qs ++ q ∷ [])) (chosen kept g (qs ++ q ∷ [])) ≡ cond b (g p ∷ chosen kept g qs) (chosen kept g qs) ++ cond (kept q) (g q ∷ []) []
    at rest true = ap (λ (xs : List A). g p ∷ xs) rest
    at rest false = rest

-- nodes that are made one after another
pub nodes-none : (old : List (List (Rule ℕ))) (room : ℕ) → AreMade [] old old room room
nodes-none old room = record { nodes = sym (append-nil old); room = omega arith }

pub total-append : (xs ys : List (List (Rule ℕ))) → rule_total (xs ++ ys) ≡ rule_total xs + rule_total ys
total-append [] ys = omega arith
total-append (rs ∷ xs) ys =
    let first = sum_by-cons (λ (x : List (Rule ℕ)). length x) rs (xs ++ ys) in
    let other = sum_by-cons (λ (x : List (Rule ℕ)). length x) rs xs in
    omega (arith, first, other, total-append xs ys)

pub nodes-then : (made more : List (List (Rule ℕ))) (old now new : List (List (Rule ℕ))) (room left rest : ℕ) → AreMade made old now room left → AreMade more now new left rest → AreMade (made ++ more) old new room rest
nodes-then made more old now new room left rest h k = record {
  nodes = k.nodes ∙ (ap (λ (xs : List (List (Rule ℕ))). xs ++ more) h.nodes ∙ append_assoc old made more);
  room = omega (arith, h.room, k.room, total-append made more);
}
