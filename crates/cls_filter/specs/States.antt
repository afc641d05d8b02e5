-- States are below their limit.
use Rattle.std.specs.Prelude.{ℕ, ◌<◌, List, [], ◌∷◌, Option, IfSome}
use Rattle.cls_base.specs.Limits.{max_states}
use Rattle.cls_base.specs.Terms.{Applicative}
use Rattle.cls_filter.specs.Automata.{Automaton, applied_state, state_of}
use Rattle.cls_filter.specs.Tables.{said_at}

-- a state below the limit, or none
abbrev pub IsState : Option ℕ → Type 0
IsState state = IfSome state (λ q. q < max_states)

-- what is said of each thing leads to such a state
abbrev pub AreStates : List (Option (Option ℕ)) → Type 0
AreStates said = (i : ℕ) → IfSome (said_at said i) IsState

-- what a filter keeps
pub record HasStates (of_leaves of_pairs : List (Option (Option ℕ))) (of_other : Option ℕ) : Type 0 where
  pub leaves : AreStates of_leaves
  pub pairs : AreStates of_pairs
  pub other : IsState of_other

-- the states that an automaton gives are below the limit
abbrev pub IsAutomaton : Automaton → Type 0
IsAutomaton a = HasStates a.leaves a.pairs a.other

-- the state of a term with this state that is applied to each of the terms in turn
abbrev pub spine_state : Automaton → Option ℕ → List Applicative → Option ℕ
spine_state a state [] = state
spine_state a state (e ∷ es) = spine_state a (applied_state a state (state_of a e)) es
