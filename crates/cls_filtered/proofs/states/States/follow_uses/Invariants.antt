use Rattle.cls_filtered.specs.States.{Turns}
use Rattle.cls_filtered.proofs.states.States.follow_uses.Given as goal

abbrev pub invariant-loop-step : goal.invariant-loop-step
invariant-loop-step l = Turns l.filter l.book l.initial.self l.self
