-- What an automaton is by the lines that made it: of the lines that match, the first one counts.
use Rattle.std.specs.Prelude.{ℕ, ◌≡◌, ◌+◌, ◌<◌, Bool, false, ◌&&◌, ◌||◌, cond, nat_eq, nat_lt, List, [], ◌∷◌, Option, Some, None}
use Rattle.cls_base.specs.Limits.{max_states}
use Rattle.cls_filter.specs.Automata.{Automaton, leaf_state, joined_state, is_accepting, settled}
use Rattle.cls_filter.specs.Lines.{no_lines, with_accepting, with_leaf, with_app, with_other, without_leaf, is_named}

-- a line of a filter, in which None is a right side that is none, or a left one that stands for every state
pub data Line : Type 0 where
  accepts_line : (state : ℕ) → Line
  leaf_line : (component : ℕ) (state : Option ℕ) → Line
  app_line : (left right state : Option ℕ) → Line
  other_line : (state : ℕ) → Line

abbrev pub with_line : Automaton → Line → Automaton
with_line a (accepts_line q) = with_accepting a q
with_line a (leaf_line x state) = with_leaf a x state
with_line a (app_line p q state) = with_app a p q state
with_line a (other_line q) = with_other a q

abbrev pub with_lines : Automaton → List Line → Automaton
with_lines a [] = a
with_lines a (l ∷ ls) = with_lines (with_line a l) ls

abbrev pub automaton_of : List Line → Automaton
automaton_of ls = with_lines no_lines ls

-- where the line leads if it is about the component, about the pair of states, or about all that is left
abbrev pub leaf_said : ℕ → Line → Option (Option ℕ)
leaf_said x (accepts_line q) = None
leaf_said x (leaf_line y state) = cond (nat_eq y x) (Some state) None
leaf_said x (app_line p q state) = None
leaf_said x (other_line q) = None

abbrev pub app_said : ℕ → ℕ → Line → Option (Option ℕ)
app_said p q (accepts_line r) = None
app_said p q (leaf_line x state) = None
app_said p q (app_line left right state) = cond (is_named left p && is_named right q) (Some state) None
app_said p q (other_line r) = None

abbrev pub other_said : Line → Option ℕ
other_said (accepts_line q) = None
other_said (leaf_line x state) = None
other_said (app_line p q state) = None
other_said (other_line q) = Some q

abbrev pub is_accepted_by : ℕ → Line → Bool
is_accepted_by q (accepts_line r) = nat_eq r q
is_accepted_by q (leaf_line x state) = false
is_accepted_by q (app_line left right state) = false
is_accepted_by q (other_line r) = false

-- the first thing that the lines say
abbrev pub or_later : {A : Type 0} → Option A → Option A → Option A
or_later None later = later
or_later (Some said) later = Some said

abbrev pub first_said_by : {A : Type 0} → (Line → Option A) → List Line → Option A
first_said_by says [] = None
first_said_by says (l ∷ ls) = or_later (says l) (first_said_by says ls)

abbrev pub is_said_by : (Line → Bool) → List Line → Bool
is_said_by says [] = false
is_said_by says (l ∷ ls) = says l || is_said_by says ls

-- The state of a component is that of its first `leaf` line, otherwise that of the first `other` line, otherwise none.
abbrev pub FirstLeavesCount : Type 0
FirstLeavesCount =
    (ls : List Line) (x : ℕ)
    → leaf_state (automaton_of ls) x ≡ settled (first_said_by (leaf_said x) ls) (first_said_by other_said ls)

-- The state of the application of a state to another is that of the first `app` line that matches, otherwise the same.
abbrev pub FirstAppsCount : Type 0
FirstAppsCount =
    (ls : List Line) (p q : ℕ) → p < max_states → q < max_states
    → joined_state (automaton_of ls) p q ≡ settled (first_said_by (app_said p q) ls) (first_said_by other_said ls)

-- The accepting states are those that a line names.
abbrev pub NamedStatesAccept : Type 0
NamedStatesAccept =
    (ls : List Line) (q : ℕ) → q < max_states → is_accepting (automaton_of ls) q ≡ is_said_by (is_accepted_by q) ls

-- Where a component is taken out, each other one keeps its state under its new number.
abbrev pub OthersKeepTheirStates : Type 0
OthersKeepTheirStates =
    (a : Automaton) (x y : ℕ) → leaf_state (without_leaf a x) y ≡ leaf_state a (cond (nat_lt y x) y (y + 1))
