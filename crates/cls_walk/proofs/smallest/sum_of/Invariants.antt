use Rattle.std.proofs.Common.{◌≡◌, take}
use Rattle.std.specs.Prelude.{slice_index}
use Rattle.cls_walk.specs.Frames.{least_sum}
use Rattle.cls_walk.specs.Tables.{capped}
use Rattle.cls_walk.proofs.smallest.sum_of.Given as goal

abbrev pub invariant-loop-node : goal.invariant-loop-node
invariant-loop-node l = l.total ≡ capped (least_sum (slice_index l.least) (take l.node-index l.nodes))
