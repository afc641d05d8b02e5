-- internal: rules that are made, as many as there is room for
use Rattle.std.specs.Prelude.{ℕ, suc, ◌≡◌, ◌+◌, ◌<◌, ◌^◌, Bool, List, [], ◌∷◌, ◌++◌, Option, Some, None, length, map, cond, filter, take, slice_index_or}
use Rattle.cls_base.specs.Limits.{max_states}
use Rattle.cls_base.specs.declared.rule.Rule.{Rule}
use Rattle.cls_base.specs.declared.rule.Rule.TheVariants.{Any}
use Rattle.cls_filter.specs.Automata.{Automaton}
use Rattle.cls_filtered.specs.Filtered.{count_true, is_kept, node_of, are_kept, IsRuleBook, below, rule_total, rules_to}

-- the rules of a node so far, and how many more may be made
pub record MadeRules : Type 0 where
  pub rules : List (Rule ℕ)
  pub room : ℕ

-- these are made
pub record IsMade (rs : List (Rule ℕ)) (old new : MadeRules) : Type 0 where
  pub rules : new.rules ≡ old.rules ++ rs
  pub room : new.room + length rs ≡ old.room

-- there is no room for these
abbrev pub IsTooMuch : List (Rule ℕ) → MadeRules → Type 0
IsTooMuch rs old = old.room < length rs

-- the node of each pair, by the pair's number
abbrev pub AreNodes : List Bool → List ℕ → Type 0
AreNodes flags numbers =
    (length numbers ≡ length flags) × ((k : ℕ) → k < length flags → slice_index_or numbers k 0 ≡ count_true (take k flags) + 1)

-- the node of the pair, if it is kept
abbrev pub kept_node : List Bool → ℕ → ℕ → Option ℕ
kept_node flags i q = cond (is_kept flags i q) (Some (node_of flags i q)) None

-- the application of a node to another, which is kept at this state, or none
abbrev pub applied_to : List Bool → ℕ → ℕ → ℕ → List (Rule ℕ)
applied_to flags n m q = cond (is_kept flags m q) (Any n (node_of flags m q) ∷ []) []

-- the application of a node to another at these states, if both are kept
abbrev pub applied : List Bool → ℕ → ℕ → ℕ × ℕ → List (Rule ℕ)
applied flags l m s = cond (are_kept flags l m s) (Any (node_of flags l s.0) (node_of flags m s.1) ∷ []) []

-- the applications of a node to another whose states are these
abbrev pub applications : List Bool → ℕ → ℕ → List (ℕ × ℕ) → List (Rule ℕ)
applications flags l m pairs = map (λ s. Any (node_of flags l s.0) (node_of flags m s.1)) (filter (are_kept flags l m) pairs)

-- what is kept of the nodes of a filtered book: there is one, a u32 counts them, and the arguments of rules are nodes
pub record IsFilteredBook (book : List (List (Rule ℕ))) : Type 0 where
  pub rules : IsRuleBook book
  pub few : length book < 2 ^ 32

-- g of the numbers that are kept
abbrev pub chosen : {A : Type 0} → (ℕ → Bool) → (ℕ → A) → List ℕ → List A
chosen kept g [] = []
chosen kept g (q ∷ qs) = cond (kept q) (g q ∷ chosen kept g qs) (chosen kept g qs)

-- the rules of the pairs of a node that are kept
abbrev pub kept_rules : Automaton → List Bool → ℕ → List (Rule ℕ) → List (List (Rule ℕ))
kept_rules a flags i rs = chosen (is_kept flags i) (rules_to a flags rs) (below max_states)

-- and of the nodes from number i on
abbrev pub all_kept : Automaton → List Bool → ℕ → List (List (Rule ℕ)) → List (List (Rule ℕ))
all_kept a flags i [] = []
all_kept a flags i (rs ∷ book) = kept_rules a flags i rs ++ all_kept a flags (suc i) book

-- the nodes are made, and there was room for their rules
pub record AreMade (made : List (List (Rule ℕ))) (old new : List (List (Rule ℕ))) (before left : ℕ) : Type 0 where
  pub nodes : new ≡ old ++ made
  pub room : left + rule_total made ≡ before
