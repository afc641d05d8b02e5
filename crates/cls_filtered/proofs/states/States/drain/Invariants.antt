use Rattle.cls_filtered.specs.States.{work_left, Keeps}
use Rattle.cls_filtered.proofs.states.States.drain.Given as goal

abbrev pub invariant-loop-node : goal.invariant-loop-node
invariant-loop-node l = Keeps l.filter l.book l.initial.self l.self

abbrev pub decreases-loop-node : goal.decreases-loop-node
decreases-loop-node l = work_left l.self
