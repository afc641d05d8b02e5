use Rattle.cls_filtered.specs.States.{Passes}
use Rattle.cls_filtered.proofs.states.States.pass.Given as goal

abbrev pub invariant-loop-node : goal.invariant-loop-node
invariant-loop-node l = Passes l.filter l.book l.node l.initial.self l.self
