use Rattle.std.proofs.Common.{ℕ, ◌<◌, get_or, []}
use Rattle.cls_check.specs.Tests.{AreRight, AreSettled, IsSettled}
use Rattle.cls_check.proofs.steps.are_settled.Given as goal

abbrev pub invariant-loop-i : goal.invariant-loop-i
invariant-loop-i l = record {
  settled : (k : ℕ) → k < l.i → IsSettled l.lib l.goals l.place l.family l.layer (get_or l.sets k []);
  known : AreRight l.lib l.goals l.known;
  kept : AreSettled l.lib l.goals l.place l.family l.layer l.kept;
}
