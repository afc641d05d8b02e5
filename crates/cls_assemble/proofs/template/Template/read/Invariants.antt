use Rattle.std.proofs.Common.{length, ◌-◌, ◌≤◌}
use Rattle.cls_assemble.specs.Steps.{IsReadUpTo}
use Rattle.cls_assemble.proofs.template.Template.read.Given as goal

abbrev pub invariant-loop-at : goal.invariant-loop-at
invariant-loop-at l = record {
  read : IsReadUpTo l.text l.template l.at;
  within : l.at ≤ length l.text;
}

abbrev pub decreases-loop-at : goal.decreases-loop-at
decreases-loop-at l = length l.text - l.at
