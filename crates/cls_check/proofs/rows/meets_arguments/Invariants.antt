use Rattle.std.proofs.Common.{ℕ, ◌<◌}
use Rattle.cls_check.specs.Arguments.{argument_type}
use Rattle.cls_check.specs.Goals.{IsAboveGoal}
use Rattle.cls_check.specs.Places.{arrows_in}
use Rattle.cls_check.specs.Tests.{AreMet}
use Rattle.cls_check.proofs.rows.meets_arguments.Given as goal

abbrev pub invariant-loop-argument : goal.invariant-loop-argument
invariant-loop-argument l = record {
  met : (k : ℕ) → k < l.argument-index → IsAboveGoal l.lib l.goals (argument_type (arrows_in l.lib l.fn.place) l.positions k);
  known : AreMet l.lib l.goals l.known;
}
