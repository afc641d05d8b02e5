use Rattle.std.proofs.Common.{◌≡◌, ◌+◌, ◌-◌, ◌*◌, ◌≤◌, length}
use Rattle.cls_path.specs.Paths.{listed}
use Rattle.cls_check.specs.Tests.{AreRight}
use Rattle.cls_check.proofs.Finding.{AreWalkedBefore}
use Rattle.cls_check.proofs.members.are_others_walked.Given as goal

abbrev pub invariant-loop-found : goal.invariant-loop-found
invariant-loop-found l = record {
  finder : l.finder ≡ record { library = l.lib; goal = l.form };
  walked : AreWalkedBefore l.lib l.goals l.places.keys (listed l.form) l.from.component l.from.count;
  size : l.from.component ≤ length l.lib.components;
  count : l.from.count ≤ 33;
  known : AreRight l.lib l.goals l.known;
}

abbrev pub decreases-loop-found : goal.decreases-loop-found
decreases-loop-found l = (length l.lib.components + 1) * 34 - (l.from.component * 34 + l.from.count)
