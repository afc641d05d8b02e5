-- The rule book of the terms of a rule book that an automaton accepts.
use Rattle.std.specs.Prelude.{ℕ, zero, suc, ◌≡◌, ◌+◌, ◌*◌, ◌<◌, ◌≤◌, ◌↔◌, Bool, true, false, ◌&&◌, IsTrue, cond, nat_eq, List, [], ◌∷◌, ◌++◌, Option, Some, None, length, map, take, filter, slice_index_or}
use Rattle.std.specs.List.{flat_map, sum_by}
use Rattle.cls_base.specs.Limits.{max_states}
use Rattle.cls_base.specs.Terms.{Applicative}
use Rattle.cls_base.specs.declared.rule.Rule.{Rule}
use Rattle.cls_base.specs.declared.rule.Rule.TheVariants.{Head, Any}
use Rattle.cls_base.specs.Languages.{IsGenerated, rules_at}
use Rattle.cls_base.specs.Books.{HaveNodesBelow}
use Rattle.cls_filter.specs.Automata.{Automaton, leaf_state, joined_state, is_accepting, state_of}
use Rattle.cls_filtered.specs.Stepwise.{stepwise}

-- there is a node, and the arguments of rules are nodes
pub record IsRuleBook (book : List (List (Rule ℕ))) : Type 0 where
  pub some : 1 ≤ length book
  pub within : (i : ℕ) → HaveNodesBelow (length book) (rules_at book i)

-- the numbers below n
abbrev pub below : ℕ → List ℕ
below zero = []
below (suc n) = below n ++ n ∷ []

-- A pair of a node and a state, by number: those of node 0 first, in the order of the states.
abbrev pub pair_of : ℕ → ℕ → ℕ
pair_of i q = i * max_states + q

-- some term of the node has the state
abbrev pub HasState : List (List (Rule ℕ)) → Automaton → ℕ → ℕ → Type 0
HasState book a i q = (e : Applicative) × IsGenerated book i e × (state_of a e ≡ Some q)

-- whether each pair of a node and a state has a term
pub record AreStatesOf (book : List (List (Rule ℕ))) (a : Automaton) (flags : List Bool) : Type 0 where
  pub count : length flags ≡ length book * max_states
  pub each : (i q : ℕ) → i < length book → q < max_states → IsTrue (slice_index_or flags (pair_of i q) false) ↔ HasState book a i q

abbrev pub is_state : Option ℕ → ℕ → Bool
is_state None q = false
is_state (Some p) q = nat_eq p q

abbrev pub count_true : List Bool → ℕ
count_true [] = 0
count_true (true ∷ flags) = suc (count_true flags)
count_true (false ∷ flags) = count_true flags

-- pairs of states, those of one left state and all of them, in lexicographic order
abbrev pub left_pairs : ℕ → List (ℕ × ℕ)
left_pairs p = map (λ q. (p, q)) (below max_states)

abbrev pub state_pairs : List (ℕ × ℕ)
state_pairs = flat_map left_pairs (below max_states)

-- the items whose flag is true
abbrev pub picked : {A : Type 0} → List Bool → List A → List A
picked [] xs = []
picked (b ∷ flags) [] = []
picked (b ∷ flags) (x ∷ xs) = cond b (x ∷ picked flags xs) (picked flags xs)

-- the application of the states of the pair has state q
abbrev pub leads_to : Automaton → ℕ → ℕ × ℕ → Bool
leads_to a q s = is_state (joined_state a s.0 s.1) q

abbrev pub pairs_to : Automaton → ℕ → List (ℕ × ℕ)
pairs_to a q = filter (leads_to a q) state_pairs

module _ (flags : List Bool) where
  abbrev pub is_kept : ℕ → ℕ → Bool
  is_kept i q = slice_index_or flags (pair_of i q) false

  -- A pair that has a term is a node. Node 0 is the start, and behind it they come in their order.
  abbrev pub node_of : ℕ → ℕ → ℕ
  node_of i q = suc (count_true (take (pair_of i q) flags))

  -- each node has a term of its state
  abbrev pub are_kept : ℕ → ℕ → ℕ × ℕ → Bool
  are_kept l m s = is_kept l s.0 && is_kept m s.1

module _ (a : Automaton) (flags : List Bool) where
  -- the rules that a rule makes of terms that have state q
  abbrev pub state_rules : ℕ → Rule ℕ → List (Rule ℕ)
  state_rules q (Head x ns) = cond (is_state (leaf_state a x) q) (Head x [] ∷ []) []
  state_rules q (Any l m) = map (λ s. Any (node_of flags l s.0) (node_of flags m s.1)) (filter (are_kept flags l m) (pairs_to a q))

  abbrev pub rules_to : List (Rule ℕ) → ℕ → List (Rule ℕ)
  rules_to rs q = flat_map (state_rules q) rs

  -- the rules of each pair
  abbrev pub pair_rules : List (List (Rule ℕ)) → List (List (Rule ℕ))
  pair_rules book = flat_map (λ rs. map (rules_to rs) (below max_states)) book

  -- the start has the rules of node 0 at each accepting state
  abbrev pub start_rules : List (Rule ℕ) → List (Rule ℕ)
  start_rules rs = flat_map (rules_to rs) (filter (is_accepting a) (below max_states))

  abbrev pub filtered_book : List (List (Rule ℕ)) → List (List (Rule ℕ))
  filtered_book book = start_rules (rules_at book 0) ∷ picked flags (pair_rules book)

-- The one rule book of the terms of the book that the automaton accepts.
pub record IsFiltered (book : List (List (Rule ℕ))) (a : Automaton) (filtered : List (List (Rule ℕ))) : Type 0 where
  pub flags : List Bool
  pub states : AreStatesOf (stepwise book) a flags
  pub book_is : filtered ≡ filtered_book a flags (stepwise book)

abbrev pub rule_total : List (List (Rule ℕ)) → ℕ
rule_total book = sum_by (λ rs. length rs) book

-- it has more rules than the limit
abbrev pub HasLargeFilter : List (List (Rule ℕ)) → Automaton → ℕ → Type 0
HasLargeFilter book a limit = (filtered : List (List (Rule ℕ))) × IsFiltered book a filtered × (limit < rule_total filtered)
