-- The states of the filters of a draft have numbers below their limit.
use Rattle.std.proofs.Common.{ℕ, zero, suc, ◌≤◌, List, [], ◌∷◌, ◌++◌, length, map, refl}
use Rattle.std.specs.Prelude.{slice_index_or}
use Rattle.std.specs.List.{AllByRecursion}
use Rattle.cls_base.specs.Limits.{max_states}
use Rattle.cls_filter.specs.Automata.{Automaton}
use Rattle.cls_filter.specs.Lines.{no_lines, with_accepting}
use Rattle.cls_filter.specs.States.{IsAutomaton}
use Rattle.cls_filter.proofs.Tables.{none-states, nil-states, said-states, pairs-states, other-state}
use Rattle.cls_lexer.specs.Names.{number_of, with_texts}
use Rattle.cls_repo.specs.Declarations.{changed_at, filter_at, no_filter, state_number, states_named, states_after, with_all_accepting, with_line, with_own_line}
use Rattle.cls_repo.specs.Directives.{Directive, filter, leaf, app, other}
use Rattle.cls_repo.specs.Drafts.{Draft, DraftFilter}
use Rattle.cls_repo.specs.Written.{AreBelowLimit}
use Rattle.cls_repo.proofs.StateNames.{named_below, number_below, third_below}

abbrev pub AreSmall : List DraftFilter → Type 0
AreSmall fs = AllByRecursion (λ (f : DraftFilter). IsAutomaton f.automaton) fs

pub no_lines_small : IsAutomaton no_lines
no_lines_small = record { leaves = nil-states; pairs = none-states 256; other = tt }

accepting_small : (a : Automaton) (qs : List ℕ) → IsAutomaton a → IsAutomaton (with_all_accepting a qs)
accepting_small a [] h = h
accepting_small a (q ∷ qs) h = accepting_small (with_accepting a q) qs (record { leaves = h.leaves; pairs = h.pairs; other = h.other })

-- a line whose states have numbers below the limit
module _ (components states : List (List ℕ)) (a : Automaton) (h : IsAutomaton a) where
  filter_small : (f q : List ℕ) (qs : List (List ℕ)) → IsAutomaton (with_line components states (filter f q qs) a)
  filter_small f q qs = accepting_small a (map (number_of states) (q ∷ qs)) h

  leaf_small : (f x q : List ℕ) → AreBelowLimit states (states_named (leaf f x q)) → IsAutomaton (with_line components states (leaf f x q) a)
  leaf_small f x q below = record {
    leaves = said-states a.leaves (number_of components x) (state_number states q) h.leaves (number_below states q (state_number states q) refl below);
    pairs = h.pairs;
    other = h.other;
  }

  app_small : (f p q r : List ℕ) → AreBelowLimit states (states_named (app f p q r)) → IsAutomaton (with_line components states (app f p q r) a)
  app_small f p q r below = record {
    leaves = h.leaves;
    pairs = pairs-states (state_number states p) (state_number states q) (state_number states r) a.pairs h.pairs (number_below states r (state_number states r) refl (third_below states p q r below));
    other = h.other;
  }

  other_small : (f q : List ℕ) → AreBelowLimit states (states_named (other f q)) → IsAutomaton (with_line components states (other f q) a)
  other_small f q below = record { leaves = h.leaves; pairs = h.pairs; other = other-state a.other (number_of states q) h.other below.0 }

-- one more filter
pub more_small : (fs : List DraftFilter) (f : DraftFilter) → AreSmall fs → IsAutomaton f.automaton → AreSmall (fs ++ f ∷ [])
more_small [] f h k = (k, tt)
more_small (g ∷ fs) f h k = (h.0, more_small fs f h.1 k)

pub first_small : (components : List (List ℕ)) (f q : List ℕ) (qs : List (List ℕ)) → IsAutomaton (with_own_line components (filter f q qs) no_filter).automaton
first_small components f q qs = filter_small components _ no_lines no_lines_small f q qs

-- one more line of a filter, where the one at the place stays small
changed_small : (i : ℕ) (change : DraftFilter → DraftFilter) (fs : List DraftFilter)
    → (IsAutomaton (slice_index_or fs i no_filter).automaton → IsAutomaton (change (slice_index_or fs i no_filter)).automaton) → AreSmall fs → AreSmall (changed_at i change fs)
changed_small i change [] keeps h = tt
changed_small zero change (f ∷ fs) keeps h = (keeps h.0, h.1)
changed_small (suc i) change (f ∷ fs) keeps h = (h.0, changed_small i change fs keeps h.1)

module _ (d : Draft) (h : AreSmall d.filters) where
  -- the states of the filter after the line
  below : (said : Directive) (f : List ℕ) → length (with_texts (filter_at d f).states (states_named said)) ≤ max_states
      → AreBelowLimit (with_texts (filter_at d f).states (states_named said)) (states_named said)
  below said f few = named_below (filter_at d f).states _ (states_named said) refl few

  pub leaf_line_small : (f x q : List ℕ) → length (states_after d (leaf f x q)) ≤ max_states → AreSmall (changed_at (number_of d.filter_names f) (with_own_line d.component_names (leaf f x q)) d.filters)
  leaf_line_small f x q few =
      changed_small (number_of d.filter_names f) (with_own_line d.component_names (leaf f x q)) d.filters
      (λ k. leaf_small d.component_names _ (filter_at d f).automaton k f x q (below (leaf f x q) f few)) h

  pub app_line_small : (f p q r : List ℕ) → length (states_after d (app f p q r)) ≤ max_states → AreSmall (changed_at (number_of d.filter_names f) (with_own_line d.component_names (app f p q r)) d.filters)
  app_line_small f p q r few =
      changed_small (number_of d.filter_names f) (with_own_line d.component_names (app f p q r)) d.filters
      (λ k. app_small d.component_names _ (filter_at d f).automaton k f p q r (below (app f p q r) f few)) h

  pub other_line_small : (f q : List ℕ) → length (states_after d (other f q)) ≤ max_states → AreSmall (changed_at (number_of d.filter_names f) (with_own_line d.component_names (other f q)) d.filters)
  other_line_small f q few =
      changed_small (number_of d.filter_names f) (with_own_line d.component_names (other f q)) d.filters
      (λ k. other_small d.component_names _ (filter_at d f).automaton k f q (below (other f q) f few)) h
