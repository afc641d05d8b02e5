use Rattle.std.proofs.Common.{◌∙◌, min, ◌+◌}
use Rattle.cls_finite.specs.declared.sizes.TheConstants.{SIZE_CAP}
use Rattle.cls_finite.specs.Descents.{size_at}
use Rattle.cls_finite.proofs.Greatest.{sum-next}
use Rattle.cls_finite.proofs.sizes.sizes_at.Goals as goal

pub loop-node-preserved : goal.loop-node-preserved
loop-node-preserved c =
    c.sum-total.ensures
    ∙ ((λ j. min (c.loop-node.invariant j + c.size_at.ensures j) SIZE_CAP)
    ∙ sum-next (size_at c.args.marks.now) SIZE_CAP c.args.nodes.now c.loop-node.node-index c.loop-node-test.true)
