use Rattle.std.proofs.Common.{take}
use Rattle.cls_walk.specs.Repeats.{IsRepeat}
use Rattle.cls_walk.proofs.build.repeat_of.Given as goal

abbrev pub invariant-loop-place : goal.invariant-loop-place
invariant-loop-place l = IsRepeat l.node (take l.place l.rules) l.repeat
