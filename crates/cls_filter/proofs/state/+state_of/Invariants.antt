use Rattle.std.proofs.Common.{◌≡◌, drop}
use Rattle.cls_base.specs.Terms.{length_of}
use Rattle.cls_filter.specs.Automata.{state_of}
use Rattle.cls_filter.specs.States.{IsState, spine_state}
use Rattle.cls_filter.proofs.state.+state_of.Given as goal

abbrev pub decreases-state_of : goal.decreases-state_of
decreases-state_of l = length_of l.term.now

abbrev pub invariant-loop-argument : goal.invariant-loop-argument
invariant-loop-argument l = record {
  so_far : spine_state l.filter l.state (drop l.argument-index l.arguments) ≡ state_of l.filter l.term;
  small : IsState l.state;
}
