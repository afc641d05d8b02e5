use Rattle.std.proofs.Common.{map, take}
use Rattle.cls_filtered.specs.StepBooks.{step_rule}
use Rattle.cls_filtered.specs.States.{FollowsRules}
use Rattle.cls_filtered.proofs.states.States.follow_node.Given as goal

abbrev pub invariant-loop-step : goal.invariant-loop-step
invariant-loop-step l = FollowsRules l.filter l.book l.node (map step_rule (take l.step-index l.steps)) l.initial.self l.self
