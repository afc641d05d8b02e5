use Rattle.std.proofs.Common.{◌↔◌, [], ◌∷◌}
use Rattle.cls_path.specs.Paths.{listed}
use Rattle.cls_check.specs.Goals.{IsBelowGoal}
use Rattle.cls_check.specs.Places.{arrows_in}
use Rattle.cls_check.specs.Tests.{AreRight, IsWalked}
use Rattle.cls_check.proofs.Stepping.{From}
use Rattle.cls_check.proofs.steps.is_walked.Given as goal

abbrev pub invariant-loop-step : goal.invariant-loop-step
invariant-loop-step l = record {
  walked : From l.lib (IsBelowGoal l.lib l.goals) (arrows_in l.lib l.place) l.place.n l.goal ([] ∷ []) l.layers l.step ↔ IsWalked l.lib l.goals l.place (listed l.goal) l.layers;
  known : AreRight l.lib l.goals l.known;
}
