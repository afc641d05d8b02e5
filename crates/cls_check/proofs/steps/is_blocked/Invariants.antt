use Rattle.std.proofs.Common.{ℕ, ◌<◌}
use Rattle.cls_check.specs.Arguments.{argument_type}
use Rattle.cls_check.specs.Goals.{IsBelowGoal}
use Rattle.cls_check.specs.Places.{arrows_in}
use Rattle.cls_check.specs.Tests.{AreRight}
use Rattle.cls_check.proofs.steps.is_blocked.Given as goal

abbrev pub invariant-loop-argument-2 : goal.invariant-loop-argument-2
invariant-loop-argument-2 l = record {
  none : (k : ℕ) → k < l.argument-index → IsBelowGoal l.lib l.goals (argument_type (arrows_in l.lib l.fn.place) l.set k) → ⊥;
  known : AreRight l.lib l.goals l.known;
}
