use Rattle.std.proofs.Common.{◌≤◌, take}
use Rattle.cls_walk.specs.Forms.{AreRising}
use Rattle.cls_walk.proofs.build.are_rising.Given as goal

abbrev pub invariant-loop-place : goal.invariant-loop-place
invariant-loop-place l = record { some : 1 ≤ l.place; rising : AreRising (take l.place l.forms) }
