-- The lines of a filter, and what each makes of an automaton.
use Rattle.std.specs.Prelude.{ℕ, ◌*◌, ◌/◌, ◌%◌, Bool, true, false, ◌&&◌, cond, nat_eq, List, [], Option, Some, None, replicate, slice_set, remove}
use Rattle.cls_base.specs.Limits.{max_states}
use Rattle.cls_filter.specs.Tables.{first_said, with_said, map_from}
use Rattle.cls_filter.specs.Automata.{Automaton}

-- No state accepts, and nothing is said of anything.
abbrev pub no_lines : Automaton
no_lines =
    record {
      accepting = replicate max_states false;
      leaves = [];
      pairs = replicate (max_states * max_states) None;
      other = None;
    }

-- `accepts q`
abbrev pub with_accepting : Automaton → ℕ → Automaton
with_accepting a q = record { accepting = slice_set a.accepting q true; leaves = a.leaves; pairs = a.pairs; other = a.other }

-- `leaf x -> q`
abbrev pub with_leaf : Automaton → ℕ → Option ℕ → Automaton
with_leaf a x state =
    record { accepting = a.accepting; leaves = with_said a.leaves x state; pairs = a.pairs; other = a.other }

-- whether the line speaks of the state: it names this one, or every state
abbrev pub is_named : Option ℕ → ℕ → Bool
is_named None q = true
is_named (Some p) q = nat_eq p q

abbrev pub is_pair_named : Option ℕ → Option ℕ → ℕ → Bool
is_pair_named p q i = is_named p (i / max_states) && is_named q (i % max_states)

-- what is said of pair number i after the line
abbrev pub pair_said : Option ℕ → Option ℕ → Option ℕ → ℕ → Option (Option ℕ) → Option (Option ℕ)
pair_said p q state i said = cond (is_pair_named p q i) (first_said said state) said

abbrev pub with_pairs : Option ℕ → Option ℕ → Option ℕ → List (Option (Option ℕ)) → List (Option (Option ℕ))
with_pairs p q state pairs = map_from (pair_said p q state) 0 pairs

-- `app p q -> r`
abbrev pub with_app : Automaton → Option ℕ → Option ℕ → Option ℕ → Automaton
with_app a p q state =
    record { accepting = a.accepting; leaves = a.leaves; pairs = with_pairs p q state a.pairs; other = a.other }

abbrev pub first_other : Option ℕ → ℕ → Option ℕ
first_other None q = Some q
first_other (Some earlier) q = Some earlier

-- `other q`
abbrev pub with_other : Automaton → ℕ → Automaton
with_other a q = record { accepting = a.accepting; leaves = a.leaves; pairs = a.pairs; other = first_other a.other q }

-- component x goes, and greater numbers are one less
abbrev pub without_leaf : Automaton → ℕ → Automaton
without_leaf a x = record { accepting = a.accepting; leaves = remove a.leaves x; pairs = a.pairs; other = a.other }
