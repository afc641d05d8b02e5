use Rattle.std.proofs.Common.{ℕ, ◌<◌, get_or, []}
use Rattle.cls_check.specs.Tests.{AreRight, IsStopped}
use Rattle.cls_check.proofs.steps.all_blocked.Given as goal

abbrev pub invariant-loop-i : goal.invariant-loop-i
invariant-loop-i l = record {
  blocked : (k : ℕ) → k < l.i → IsStopped l.lib l.goals l.fn.place (get_or l.sets k []);
  known : AreRight l.lib l.goals l.known;
}
