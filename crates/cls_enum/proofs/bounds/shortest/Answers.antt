use Rattle.std.proofs.Common.{arith, length}
use Rattle.cls_base.proofs.Lists.{AreBelow-at}
use Rattle.cls_enum.proofs.BoundLaws.{least-next}
use Rattle.cls_enum.proofs.bounds.shortest.Goals as goal

pub length-requires : goal.length-requires
length-requires c = AreBelow-at (length c.args.bank.now) c.args.numbers.now c.loop-number.number-index c.requires (omega (arith, c.loop-number-test.true))

pub loop-number-preserved : goal.loop-number-preserved
loop-number-preserved c =
    record {
      least = least-next c.args.bank.now c.args.numbers.now c.loop-number.number-index c.loop-number.least c.min-least.result (omega (arith, c.loop-number-test.true)) (omega (arith, c.min-least.ensures)) (omega (arith, c.min-least.ensures, c.length.ensures)) c.loop-number.invariant.least;
      small = omega (arith, c.min-least.ensures, c.loop-number.invariant.small);
    }
