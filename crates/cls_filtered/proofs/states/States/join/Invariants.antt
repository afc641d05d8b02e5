use Rattle.cls_filtered.specs.States.{Joins}
use Rattle.cls_filtered.proofs.states.States.join.Given as goal

abbrev pub invariant-loop-state : goal.invariant-loop-state
invariant-loop-state l = Joins l.filter l.node l.left.0 l.left.1 l.right l.state l.initial.self l.self
