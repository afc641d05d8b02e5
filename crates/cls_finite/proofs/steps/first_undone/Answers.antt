use Rattle.cls_finite.proofs.Descending.{more-done}
use Rattle.cls_finite.proofs.steps.first_undone.Goals as goal

pub loop-place-preserved : goal.loop-place-preserved
loop-place-preserved c = more-done c.args.marks.now c.args.nodes.now c.loop-place.place c.loop-place-test.true c.loop-place.invariant (c.is_done.ensures.0 c.if-not-is_done.false)
