use Rattle.std.proofs.Common.{◌≡◌, map, take}
use Rattle.cls_walk.specs.Counts.{pairs_of}
use Rattle.cls_walk.specs.FrameColumns.{pair_of}
use Rattle.cls_walk.proofs.rules.pairs_in.Given as goal

abbrev pub invariant-loop-place : goal.invariant-loop-place
invariant-loop-place l = map pair_of l.pairs.items ≡ pairs_of (take l.place l.rules)
