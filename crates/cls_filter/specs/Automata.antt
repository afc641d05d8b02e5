-- Deterministic bottom-up tree automata over applicative terms.
use Rattle.std.specs.Prelude.{ℕ, ◌+◌, ◌*◌, Bool, false, IsTrue, List, Option, Some, None, slice_index_or}
use Rattle.cls_base.specs.Limits.{max_states}
use Rattle.cls_base.specs.Terms.{Applicative, component, apply}
use Rattle.cls_filter.specs.Tables.{said_at}

-- States are numbers.
pub record Automaton : Type 0 where
  -- whether each state is accepting
  pub accepting : List Bool
  -- what is said of each component, nothing of those past the last
  pub leaves : List (Option (Option ℕ))
  -- what is said of each pair of states, by the number of the pair
  pub pairs : List (Option (Option ℕ))
  -- the state of what nothing is said of
  pub other : Option ℕ

abbrev pub pair_number : ℕ → ℕ → ℕ
pair_number p q = p * max_states + q

-- where a thing leads of which this is said
abbrev pub settled : Option (Option ℕ) → Option ℕ → Option ℕ
settled None other = other
settled (Some state) other = state

module _ (a : Automaton) where
  abbrev pub leaf_state : ℕ → Option ℕ
  leaf_state x = settled (said_at a.leaves x) a.other

  abbrev pub joined_state : ℕ → ℕ → Option ℕ
  joined_state p q = settled (said_at a.pairs (pair_number p q)) a.other

  -- none where a part has none
  abbrev pub applied_state : Option ℕ → Option ℕ → Option ℕ
  applied_state (Some p) (Some q) = joined_state p q
  applied_state (Some p) None = None
  applied_state None q = None

  -- the state of a term
  abbrev pub state_of : Applicative → Option ℕ
  state_of (component x) = leaf_state x
  state_of (apply f e) = applied_state (state_of f) (state_of e)

  abbrev pub is_accepting : ℕ → Bool
  is_accepting q = slice_index_or a.accepting q false

  abbrev pub is_accepted : Option ℕ → Bool
  is_accepted None = false
  is_accepted (Some q) = is_accepting q

  -- the state of the term is accepting
  abbrev pub Accepts : Applicative → Type 0
  Accepts e = IsTrue (is_accepted (state_of e))
