use Rattle.std.proofs.Common.{ap, arith, map, ◌∙◌}
use Rattle.cls_walk.proofs.Building.{rises-next}
use Rattle.cls_walk.proofs.build.each_rises.Goals as goal

pub loop-node-preserved : goal.loop-node-preserved
loop-node-preserved c = rises-next (λ v. v.items) c.deref-node-items.result.now c.args.forms.now c.loop-node.node-index c.node-item.result c.as_slice.result.now
    (ap (λ vs. map (λ v. v.items) vs) c.deref-node-items.ensures.value ∙ c.forms.view_is)
    (omega (arith, c.loop-node-test.true)) c.node-item.is c.as_slice.ensures.value (c.are_rising.ensures c.if-not-are_rising.false) c.loop-node.invariant
