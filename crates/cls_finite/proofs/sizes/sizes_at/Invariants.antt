use Rattle.std.proofs.Common.{◌≡◌, take, min}
use Rattle.std.specs.List.{sum_by}
use Rattle.cls_finite.specs.declared.sizes.TheConstants.{SIZE_CAP}
use Rattle.cls_finite.specs.Descents.{size_at}
use Rattle.cls_finite.proofs.sizes.sizes_at.Given as goal

abbrev pub invariant-loop-node : goal.invariant-loop-node
invariant-loop-node l = l.total ≡ min (sum_by (size_at l.marks) (take l.node-index l.nodes)) SIZE_CAP
