-- What a filtered book generates, for a book of steps.
use Rattle.std.proofs.Common.{◌≡◌, ℕ, ◌<◌, ◌↔◌, Bool, true, List, [], ◌∷◌, Option, Some, None, length, refl, sym, ap, subst, ◌∙◌, inl, inr, ◌⊎◌, arith}
use Rattle.std.specs.Prelude.{Contains, filter}
use Rattle.std.proofs.lemmas.Bool.{false≢true}
use Rattle.cls_base.specs.Limits.{max_states}
use Rattle.cls_base.specs.Terms.{Applicative, component, apply}
use Rattle.cls_base.specs.declared.rule.Rule.{Rule}
use Rattle.cls_base.specs.declared.rule.Rule.TheVariants.{Head, Any}
use Rattle.cls_base.specs.Arguments.{arguments_of_rule}
use Rattle.cls_base.specs.Languages.{Generates, NodeRule, rules_at, IsGenerated}
use Rattle.cls_base.proofs.Lists.{Contains-nil, Contains-cases, Contains-flat_map, Contains-from_flat_map}
use Rattle.cls_filter.specs.Automata.{Automaton, leaf_state, joined_state, applied_state, state_of, is_accepting, is_accepted, pair_number, Accepts}
use Rattle.cls_filter.specs.Tables.{said_at}
use Rattle.cls_filter.specs.States.{IsState, IsAutomaton}
use Rattle.cls_filter.proofs.Tables.{settled-state}
use Rattle.cls_filtered.specs.Filtered.{below, AreStatesOf, is_kept, node_of, rules_to, filtered_book}
use Rattle.cls_filtered.proofs.Equations.{AppliedTo, MadeBy, unmade, remade, language}
use Rattle.cls_filtered.specs.Stepwise.{AreSteps}
use Rattle.cls_filtered.proofs.FlagLists.{below-has, below-less, filter-cases, filter-has}
use Rattle.cls_filtered.proofs.Pairs.{IsLeafOf, IsApplicationOf, rules_to-cases, rules_to-leaf, rules_to-application, node-rules, node-one}

-- the state of a term is below the limit
module _ (a : Automaton) (small : IsAutomaton a) where
  applied-small : (p q : Option ℕ) → IsState (applied_state a p q)
  applied-small (Some p) (Some q) = settled-state (said_at a.pairs (pair_number p q)) a.other (small.pairs (pair_number p q)) small.other
  applied-small (Some p) None = tt
  applied-small None q = tt

  state-small : (e : Applicative) → IsState (state_of a e)
  state-small (component x) = settled-state (said_at a.leaves x) a.other (small.leaves x) small.other
  state-small (apply f e) = applied-small (state_of a f) (state_of a e)

  pub state-less : (e : Applicative) (q : ℕ) → state_of a e ≡ Some q → q < max_states
  state-less e q s = let P : Option ℕ → Type 0 = λ o. IsState o in subst P s (state-small e)

-- the parts of an application that has a state have states
pub parts-state : (a : Automaton) (o p : Option ℕ) (q : ℕ) → applied_state a o p ≡ Some q → (r : ℕ) × (s : ℕ) × (o ≡ Some r) × (p ≡ Some s) × (joined_state a r s ≡ Some q)
parts-state a (Some r) (Some s) q e = (r, s, refl, refl, e)
parts-state a (Some r) None q e = cc
parts-state a None p q e = cc

-- an accepting state
accepted-state : (a : Automaton) (o : Option ℕ) → is_accepted a o ≡ true → (q : ℕ) × (o ≡ Some q) × (is_accepting a q ≡ true)
accepted-state a None h = absurd (false≢true h)
accepted-state a (Some q) h = (q, refl, h)

module _ (book : List (List (Rule ℕ))) (a : Automaton) (flags : List Bool)
    (steps : AreSteps book) (small : IsAutomaton a) (states : AreStatesOf book a flags) where
  abbrev filtered : List (List (Rule ℕ))
  filtered = filtered_book a flags book

  -- a pair of a node and a state that is kept
  pub record IsKeptPair (i q : ℕ) : Type 0 where
    pub node : i < length book
    pub state : q < max_states
    pub kept : is_kept flags i q ≡ true

  abbrev IsNode : ℕ → Type 0
  IsNode j = (j ≡ 0) ⊎ ((i : ℕ) × (q : ℕ) × IsKeptPair i q × (j ≡ node_of flags i q))

  -- the terms of a node that have the state
  abbrev HasBoth : ℕ → ℕ → Applicative → Type 0
  HasBoth i q e = IsGenerated book i e × (state_of a e ≡ Some q)

  abbrev Has : ℕ → Applicative → Type 0
  Has j e = ((j ≡ 0) × IsGenerated book 0 e × Accepts a e) ⊎ ((i : ℕ) × (q : ℕ) × IsKeptPair i q × (j ≡ node_of flags i q) × HasBoth i q e)

  -- what has a state keeps it
  kept-by : (i q : ℕ) (e : Applicative) → i < length book → HasBoth i q e → IsKeptPair i q
  kept-by i q e l h =
      let m = state-less a small e q h.1 in
      record { node = l; state = m; kept = (states.each i q l m).1 (e, h.0, h.1) }

  -- what a node of a pair has
  has-both : (i q : ℕ) (e : Applicative) → q < max_states → is_kept flags i q ≡ true → Has (node_of flags i q) e → HasBoth i q e
  has-both i q e m k (inl h) = absurd (let z = h.0 in omega (arith, z))
  has-both i q e m k (inr h) =
      let u = h.2 in
      let same = node-one a flags i q h.0 h.1 m u.state k u.kept h.3 in
      let left = subst (λ (j : ℕ). IsGenerated book j e) (sym same.0) h.4.0 in
      let right = subst (λ (p : ℕ). state_of a e ≡ Some p) (sym same.1) h.4.1 in
      (left, right)

  -- no arguments
  alone : (x : ℕ) (ns : List ℕ) (e : Applicative) (P : ℕ → Applicative → Type 0) → ns ≡ [] → AppliedTo ℕ P (component x) ns e → e ≡ component x
  alone x ns e P s m = subst (λ (ks : List ℕ). AppliedTo ℕ P (component x) ks e) s m

  -- What is made by a rule for a pair is a term of the node, and has the state.
  rule-sound : (i q : ℕ) (r : Rule ℕ) (e : Applicative) → Contains (rules_to a flags (rules_at book i) q) r → MadeBy ℕ Has r e → HasBoth i q e
  rule-sound i q r e c m = by (rules_to-cases a flags (rules_at book i) q r c)
    where
      leaf : IsLeafOf a flags (rules_at book i) q r → HasBoth i q e
      leaf l =
          let is : e ≡ component l.head = subst (λ (p : Rule ℕ). MadeBy ℕ Has p e) l.alone m in
          let none : l.arguments ≡ [] = steps i (Head l.head l.arguments) l.there in
          let rule : NodeRule book i (Head l.head []) = subst (λ (ns : List ℕ). NodeRule book i (Head l.head ns)) none l.there in
          (remade ℕ (NodeRule book) i (Head l.head []) e rule is, ap (state_of a) is ∙ l.state)

      application : IsApplicationOf a flags (rules_at book i) q r → HasBoth i q e
      application l =
          let t = subst (λ (p : Rule ℕ). MadeBy ℕ Has p e) l.applied m in
          let left = has-both l.left l.left_state t.0 l.left_small l.left_kept t.2 in
          let right = has-both l.right l.right_state t.1 l.right_small l.right_kept t.3 in
          let state : applied_state a (state_of a t.0) (state_of a t.1) ≡ Some q = (λ j. applied_state a (left.1 j) (right.1 j)) ∙ l.state in
          (remade ℕ (NodeRule book) i (Any l.left l.right) e l.there (t.0, t.1, left.0, right.0, t.4), ap (state_of a) t.4 ∙ state)

      by : IsLeafOf a flags (rules_at book i) q r ⊎ IsApplicationOf a flags (rules_at book i) q r → HasBoth i q e
      by (inl l) = leaf l
      by (inr l) = application l

  -- What a node generates and has the state is made by a rule for the pair.
  rule-complete : (i q : ℕ) (e : Applicative) → HasBoth i q e → (r : Rule ℕ) × Contains (rules_to a flags (rules_at book i) q) r × MadeBy ℕ Has r e
  rule-complete i q e h = let u = unmade ℕ (NodeRule book) h.0 in by u.0 u.1 u.2
    where
      by : (p : Rule ℕ) → NodeRule book i p → MadeBy ℕ (Generates ℕ (NodeRule book)) p e → (r : Rule ℕ) × Contains (rules_to a flags (rules_at book i) q) r × MadeBy ℕ Has r e
      by (Head x ns) c m =
          let is = alone x ns e (Generates ℕ (NodeRule book)) (steps i (Head x ns) c) m in
          let state : leaf_state a x ≡ Some q = sym (ap (state_of a) is) ∙ h.1 in
          (Head x [], rules_to-leaf a flags (rules_at book i) q x ns c state, is)
      by (Any k l) c m =
          let s = parts-state a (state_of a m.0) (state_of a m.1) q (sym (ap (state_of a) m.4) ∙ h.1) in
          let within = steps i (Any k l) c in
          let left = kept-by k s.0 m.0 within.0 (m.2, s.2) in
          let right = kept-by l s.1 m.1 within.1 (m.3, s.3) in
          let one : Has (node_of flags k s.0) m.0 = inr (k, s.0, left, refl, (m.2, s.2)) in
          let other : Has (node_of flags l s.1) m.1 = inr (l, s.1, right, refl, (m.3, s.3)) in (
            Any (node_of flags k s.0) (node_of flags l s.1),
            rules_to-application a flags (rules_at book i) q k l s.0 s.1 c left.state right.state s.4 left.kept right.kept,
            (m.0, m.1, one, other, m.4),
          )

  -- the arguments of such a rule are nodes
  rule-onward : (i q : ℕ) (r : Rule ℕ) → Contains (rules_to a flags (rules_at book i) q) r → (n : ℕ) → Contains (arguments_of_rule r) n → IsNode n
  rule-onward i q r c n d = by (rules_to-cases a flags (rules_at book i) q r c)
    where
      by : IsLeafOf a flags (rules_at book i) q r ⊎ IsApplicationOf a flags (rules_at book i) q r → IsNode n
      by (inl l) = absurd (Contains-nil n (subst (λ (p : Rule ℕ). Contains (arguments_of_rule p) n) l.alone d))
      by (inr l) =
          let within = steps i (Any l.left l.right) l.there in
          let left = node_of flags l.left l.left_state in
          let right = node_of flags l.right l.right_state in
          elim (Contains-cases left (right ∷ []) n (subst (λ (p : Rule ℕ). Contains (arguments_of_rule p) n) l.applied d)) [
            | inl e ↦ inr (l.left, l.left_state, record { node = within.0; state = l.left_small; kept = l.left_kept }, e)
            | inr k ↦ elim (Contains-cases right [] n k) [
              | inl e ↦ inr (l.right, l.right_state, record { node = within.1; state = l.right_small; kept = l.right_kept }, e)
              | inr z ↦ absurd (Contains-nil n z)
            ]
          ]

  -- a rule of the start is one for node 0 at an accepting state
  start-cases : (r : Rule ℕ) → NodeRule filtered 0 r → (q : ℕ) × (q < max_states) × (is_accepting a q ≡ true) × Contains (rules_to a flags (rules_at book 0) q) r
  start-cases r c =
      let u = Contains-from_flat_map (rules_to a flags (rules_at book 0)) (filter (is_accepting a) (below max_states)) r c in
      let v = filter-cases (is_accepting a) (below max_states) u.0 u.1 in
      (u.0, below-less max_states u.0 v.0, v.1, u.2)

  pair-rule : (i q j : ℕ) (r : Rule ℕ) → IsKeptPair i q → j ≡ node_of flags i q → NodeRule filtered j r → Contains (rules_to a flags (rules_at book i) q) r
  pair-rule i q j r k e c =
      subst (λ (rs : List (Rule ℕ)). Contains rs r) (node-rules a flags book i q k.node k.state k.kept) (subst (λ (n : ℕ). NodeRule filtered n r) e c)

  rule-pair : (i q j : ℕ) (r : Rule ℕ) → IsKeptPair i q → j ≡ node_of flags i q → Contains (rules_to a flags (rules_at book i) q) r → NodeRule filtered j r
  rule-pair i q j r k e c =
      subst (λ (n : ℕ). NodeRule filtered n r) (sym e) (subst (λ (rs : List (Rule ℕ)). Contains rs r) (sym (node-rules a flags book i q k.node k.state k.kept)) c)

  onward : (j : ℕ) (r : Rule ℕ) → IsNode j → NodeRule filtered j r → (n : ℕ) → Contains (arguments_of_rule r) n → IsNode n
  onward j r (inl z) c n d = let u = start-cases r (subst (λ (k : ℕ). NodeRule filtered k r) z c) in rule-onward 0 u.0 r u.3 n d
  onward j r (inr k) c n d = rule-onward k.0 k.1 r (pair-rule k.0 k.1 j r k.2 k.3 c) n d

  sound : (j : ℕ) (r : Rule ℕ) (e : Applicative) → IsNode j → NodeRule filtered j r → MadeBy ℕ Has r e → Has j e
  sound j r e (inl z) c m =
      let u = start-cases r (subst (λ (k : ℕ). NodeRule filtered k r) z c) in
      let h = rule-sound 0 u.0 r e u.3 m in
      inl (z, h.0, ap (is_accepted a) h.1 ∙ u.2)
  sound j r e (inr k) c m = inr (k.0, k.1, k.2, k.3, rule-sound k.0 k.1 r e (pair-rule k.0 k.1 j r k.2 k.3 c) m)

  complete : (j : ℕ) (e : Applicative) → IsNode j → Has j e → (r : Rule ℕ) × NodeRule filtered j r × MadeBy ℕ Has r e
  complete j e n (inl h) =
      let s = accepted-state a (state_of a e) h.2 in
      let u = rule-complete 0 s.0 e (h.1, s.1) in
      let accepting = filter-has (is_accepting a) (below max_states) s.0 (below-has max_states s.0 (state-less a small e s.0 s.1)) s.2 in
      let there = Contains-flat_map (rules_to a flags (rules_at book 0)) (filter (is_accepting a) (below max_states)) s.0 u.0 accepting u.1 in
      (u.0, subst (λ (k : ℕ). NodeRule filtered k u.0) (sym h.0) there, u.2)
  complete j e n (inr h) =
      let u = rule-complete h.0 h.1 e h.4 in
      (u.0, rule-pair h.0 h.1 j u.0 h.2 h.3 u.1, u.2)

  -- The start generates what node 0 of the book generates and the automaton accepts.
  pub filtered-language : (e : Applicative) → IsGenerated (filtered_book a flags book) 0 e ↔ (IsGenerated book 0 e × Accepts a e)
  filtered-language e =
      let both = language ℕ (NodeRule filtered) IsNode Has onward sound complete 0 e (inl refl) in
      ((λ g. of-start (both.0 g)), (λ h. both.1 (inl (refl, h.0, h.1))))
    where
      of-start : Has 0 e → IsGenerated book 0 e × Accepts a e
      of-start (inl h) = (h.1, h.2)
      of-start (inr h) = absurd (let z = h.3 in omega (arith, z))
