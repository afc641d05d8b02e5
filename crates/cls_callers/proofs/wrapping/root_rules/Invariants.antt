use Rattle.std.proofs.Common.{◌≡◌, ◌+◌, [], take}
use Rattle.cls_callers.specs.Asking.{asked_rules}
use Rattle.cls_callers.proofs.wrapping.root_rules.Given as goal

abbrev pub invariant-loop-goal : goal.invariant-loop-goal
invariant-loop-goal g l = record {
  made : l.rules ≡ asked_rules 1 (take l.goal-index l.goals);
  none : l.args.items ≡ [];
  next : l.number ≡ l.goal-index + 1;
}
