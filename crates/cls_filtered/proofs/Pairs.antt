-- The nodes of a filtered book: pairs of a node and a state.
use Rattle.std.proofs.Common.{◌≡◌, ℕ, ◌+◌, ◌*◌, ◌<◌, Bool, true, false, cond, List, [], ◌∷◌, Option, Some, None, length, take, map, refl, sym, ap, subst, ◌∙◌, inl, inr, ◌⊎◌, arith}
use Rattle.std.specs.Prelude.{Contains, filter}
use Rattle.std.proofs.lemmas.Bool.{false≢true, eqb-true, eq-eqb, and_parts, and_from}
use Rattle.cls_base.specs.Limits.{max_states}
use Rattle.cls_base.specs.declared.rule.Rule.{Rule}
use Rattle.cls_base.specs.declared.rule.Rule.TheVariants.{Head, Any}
use Rattle.cls_base.specs.Languages.{rules_at}
use Rattle.cls_base.proofs.Lists.{Contains-nil, Contains-cases, Contains-here, Contains-map, Contains-from_map, Contains-flat_map, Contains-from_flat_map}
use Rattle.cls_filter.specs.Automata.{Automaton, leaf_state, joined_state}
use Rattle.cls_filtered.specs.Filtered.{below, pair_of, is_state, count_true, state_pairs, is_kept, node_of, leads_to, pairs_to, are_kept, state_rules, rules_to, pair_rules, filtered_book}
use Rattle.cls_filtered.proofs.FlagLists.{below-length, below-has, below-less, below-at, filter-cases, filter-has, picked-at, count-one, blocks-length, blocks-at}

-- a state by its test
pub is_state-true : (o : Option ℕ) (q : ℕ) → is_state o q ≡ true → o ≡ Some q
is_state-true None q h = absurd (false≢true h)
is_state-true (Some p) q h = ap (λ (n : ℕ). Some n) (eqb-true p q h)

pub is_state-of : (o : Option ℕ) (q : ℕ) → o ≡ Some q → is_state o q ≡ true
is_state-of o q e = ap (λ (s : Option ℕ). is_state s q) e ∙ eq-eqb q q refl

-- each pair of states is one of the list
pub state_pairs-has : (p q : ℕ) → p < max_states → q < max_states → Contains state_pairs (p, q)
state_pairs-has p q l m =
    Contains-flat_map (λ (r : ℕ). map (λ (s : ℕ). (r, s)) (below max_states)) (below max_states) p (p, q) (below-has max_states p l)
    (Contains-map (λ (s : ℕ). (p, s)) (below max_states) q (below-has max_states q m))

pub state_pairs-less : (s : ℕ × ℕ) → Contains state_pairs s → (s.0 < max_states) × (s.1 < max_states)
state_pairs-less s c =
    let u = Contains-from_flat_map (λ (r : ℕ). map (λ (q : ℕ). (r, q)) (below max_states)) (below max_states) s c in
    let v = Contains-from_map (λ (q : ℕ). (u.0, q)) (below max_states) s u.2 in
    let left : s.0 ≡ u.0 = ap (λ (t : ℕ × ℕ). t.0) v.2 in
    let right : s.1 ≡ v.0 = ap (λ (t : ℕ × ℕ). t.1) v.2 in
    (omega (arith, left, below-less max_states u.0 u.1), omega (arith, right, below-less max_states v.0 v.1))

module _ (a : Automaton) (flags : List Bool) where
  -- How a rule of the filtered book comes from a rule of the book: both are components alone, and the component has the state;
  -- or both apply, and the states of the parts lead to it, and the parts are kept.
  pub record IsLeafOf (rs : List (Rule ℕ)) (q : ℕ) (r : Rule ℕ) : Type 0 where
    pub head : ℕ
    pub arguments : List ℕ
    pub there : Contains rs (Head head arguments)
    pub alone : r ≡ Head head []
    pub state : leaf_state a head ≡ Some q

  pub record IsApplicationOf (rs : List (Rule ℕ)) (q : ℕ) (r : Rule ℕ) : Type 0 where
    pub left : ℕ
    pub right : ℕ
    pub there : Contains rs (Any left right)
    pub left_state : ℕ
    pub right_state : ℕ
    pub left_small : left_state < max_states
    pub right_small : right_state < max_states
    pub applied : r ≡ Any (node_of flags left left_state) (node_of flags right right_state)
    pub state : joined_state a left_state right_state ≡ Some q
    pub left_kept : is_kept flags left left_state ≡ true
    pub right_kept : is_kept flags right right_state ≡ true

  pub rules_to-cases : (rs : List (Rule ℕ)) (q : ℕ) (r : Rule ℕ) → Contains (rules_to a flags rs q) r → IsLeafOf rs q r ⊎ IsApplicationOf rs q r
  rules_to-cases rs q r c = let u = Contains-from_flat_map (state_rules a flags q) rs r c in by u.0 u.1 u.2
    where
      leaf : (x : ℕ) (ns : List ℕ) → Contains rs (Head x ns) → (b : Bool) → is_state (leaf_state a x) q ≡ b → Contains (cond b (Head x [] ∷ []) []) r → IsLeafOf rs q r ⊎ IsApplicationOf rs q r
      leaf x ns m false e d = absurd (Contains-nil r d)
      leaf x ns m true e d = elim (Contains-cases (Head x []) [] r d) [
        | inl s ↦ inl (record { head = x; arguments = ns; there = m; alone = s; state = is_state-true (leaf_state a x) q e })
        | inr k ↦ absurd (Contains-nil r k)
      ]

      by : (p : Rule ℕ) → Contains rs p → Contains (state_rules a flags q p) r → IsLeafOf rs q r ⊎ IsApplicationOf rs q r
      by (Head x ns) m d = leaf x ns m (is_state (leaf_state a x) q) refl d
      by (Any k l) m d =
          let u = Contains-from_map (λ (s : ℕ × ℕ). Any (node_of flags k s.0) (node_of flags l s.1)) (filter (are_kept flags k l) (pairs_to a q)) r d in
          let v = filter-cases (are_kept flags k l) (pairs_to a q) u.0 u.1 in
          let w = filter-cases (leads_to a q) state_pairs u.0 v.0 in
          let small = state_pairs-less u.0 w.0 in
          let kept = and_parts (is_kept flags k u.0.0) (is_kept flags l u.0.1) v.1 in
          inr (record {
            left = k;
            right = l;
            there = m;
            left_state = u.0.0;
            right_state = u.0.1;
            left_small = small.0;
            right_small = small.1;
            applied = u.2;
            state = is_state-true (joined_state a u.0.0 u.0.1) q w.1;
            left_kept = kept.0;
            right_kept = kept.1;
          })

  pub rules_to-leaf : (rs : List (Rule ℕ)) (q x : ℕ) (ns : List ℕ) → Contains rs (Head x ns) → leaf_state a x ≡ Some q → Contains (rules_to a flags rs q) (Head x [])
  rules_to-leaf rs q x ns c e =
      let alone : Rule ℕ = Head x [] in
      let there = subst (λ (b : Bool). Contains (cond b (alone ∷ []) []) alone) (sym (is_state-of (leaf_state a x) q e)) (Contains-here alone []) in
      Contains-flat_map (state_rules a flags q) rs (Head x ns) alone c there

  pub rules_to-application : (rs : List (Rule ℕ)) (q k l p s : ℕ) → Contains rs (Any k l) → p < max_states → s < max_states → joined_state a p s ≡ Some q → is_kept flags k p ≡ true → is_kept flags l s ≡ true → Contains (rules_to a flags rs q) (Any (node_of flags k p) (node_of flags l s))
  rules_to-application rs q k l p s c m n e h i =
      let leads = filter-has (leads_to a q) state_pairs (p, s) (state_pairs-has p s m n) (is_state-of (joined_state a p s) q e) in
      let kept = filter-has (are_kept flags k l) (pairs_to a q) (p, s) leads (and_from (is_kept flags k p) (is_kept flags l s) h i) in
      Contains-flat_map (state_rules a flags q) rs (Any k l) (Any (node_of flags k p) (node_of flags l s)) c
      (Contains-map (λ (t : ℕ × ℕ). Any (node_of flags k t.0) (node_of flags l t.1)) (filter (are_kept flags k l) (pairs_to a q)) (p, s) kept)

  -- the rules of a kept pair are those of its node
  pub node-rules : (book : List (List (Rule ℕ))) (i q : ℕ) → i < length book → q < max_states → is_kept flags i q ≡ true → rules_at (filtered_book a flags book) (node_of flags i q) ≡ rules_to a flags (rules_at book i) q
  node-rules book i q l m h =
      let states = below max_states in
      let sixteen : length states ≡ 16 = below-length max_states in
      let within : pair_of i q < length (pair_rules a flags book) = omega (arith, l, m, blocks-length (rules_to a flags) states sixteen book) in
      picked-at flags (pair_rules a flags book) (pair_of i q) [] h within
      ∙ (blocks-at (rules_to a flags) states sixteen book i q [] [] l m ∙ ap (rules_to a flags (rules_at book i)) (below-at max_states q 0 m))

  -- kept pairs have different nodes
  pub node-one : (i q j p : ℕ) → q < max_states → p < max_states → is_kept flags i q ≡ true → is_kept flags j p ≡ true → node_of flags i q ≡ node_of flags j p → (i ≡ j) × (q ≡ p)
  node-one i q j p m n h k e =
      let counts : count_true (take (pair_of i q) flags) ≡ count_true (take (pair_of j p) flags) = omega (arith, e) in
      let same : i * 16 + q ≡ j * 16 + p = count-one flags (pair_of i q) (pair_of j p) h k counts in
      (omega (arith, same, m, n), omega (arith, same, m, n))
