use Rattle.std.proofs.Common.{arith}
use Rattle.cls_walk.proofs.Building.{rising-next}
use Rattle.cls_walk.proofs.build.are_rising.Goals as goal

pub loop-place-preserved : goal.loop-place-preserved
loop-place-preserved c = record {
  some = omega arith;
  rising = rising-next c.args.forms.now c.loop-place.place c.index-forms-place.result c.index-forms-place-in-loop-place.result c.loop-place.invariant.some (omega (arith, c.loop-place-test.true)) c.index-forms-place.is c.index-forms-place-in-loop-place.is (c.is_earlier.ensures c.if-not-is_earlier.false) c.loop-place.invariant.rising;
}
