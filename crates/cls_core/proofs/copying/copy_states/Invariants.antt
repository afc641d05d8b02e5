use Rattle.std.proofs.Common.{◌≡◌, take}
use Rattle.cls_core.proofs.copying.copy_states.Given as goal

abbrev pub invariant-loop-state : goal.invariant-loop-state
invariant-loop-state l = l.copies.items ≡ take l.state-index l.states
