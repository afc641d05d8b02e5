use Rattle.std.specs.Prelude.{All}
use Rattle.std.proofs.Common.{take}
use Rattle.cls_path.specs.Paths.{listed}
use Rattle.cls_check.specs.Tests.{AreRight, IsBlockWalked}
use Rattle.cls_check.proofs.members.are_blocks_walked.Given as goal

abbrev pub invariant-loop-i : goal.invariant-loop-i
invariant-loop-i l = record {
  walked : All (IsBlockWalked l.lib l.goals (listed l.form)) (take l.i l.blocks);
  known : AreRight l.lib l.goals l.known;
}
