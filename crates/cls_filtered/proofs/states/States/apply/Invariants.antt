use Rattle.cls_filtered.specs.States.{Applies}
use Rattle.cls_filtered.proofs.states.States.apply.Given as goal

abbrev pub invariant-loop-state : goal.invariant-loop-state
invariant-loop-state l = Applies l.filter l.node l.left l.right l.state l.initial.self l.self
