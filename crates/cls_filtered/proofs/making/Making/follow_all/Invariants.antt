use Rattle.std.proofs.Common.{map, take}
use Rattle.cls_filtered.specs.Filtered.{rules_to}
use Rattle.cls_filtered.specs.StepBooks.{step_rule}
use Rattle.cls_filtered.specs.Makings.{IsMade}
use Rattle.cls_filtered.proofs.making.Making.follow_all.Given as goal

abbrev pub invariant-loop-step : goal.invariant-loop-step
invariant-loop-step l = IsMade (rules_to l.filter l.kept (map step_rule (take l.step-index l.steps)) l.state) l.initial.self l.self
