use Rattle.std.proofs.Common.{◌≡◌, map, take}
use Rattle.cls_walk.specs.Counts.{heads_of}
use Rattle.cls_walk.specs.FrameColumns.{head_of}
use Rattle.cls_walk.proofs.rules.heads_in.Given as goal

abbrev pub invariant-loop-place : goal.invariant-loop-place
invariant-loop-place l = map head_of l.heads.items ≡ heads_of (take l.place l.rules)
