use Rattle.std.proofs.Common.{get_or, refl, arith}
use Rattle.cls_assemble.proofs.Numerals.{digit_at, number_value-more}
use Rattle.cls_assemble.proofs.scan.hole_number.Goals as goal

pub overflow_sub-digit : goal.overflow_sub-digit
overflow_sub-digit c =
    let range = digit_at c.args.digits.now c.loop-digit.digit-index (get_or c.args.digits.now c.loop-digit.digit-index 0) refl c.loop-digit-test.true c.requires in
    omega arith

pub overflow_add-number : goal.overflow_add-number
overflow_add-number c =
    let range = digit_at c.args.digits.now c.loop-digit.digit-index (get_or c.args.digits.now c.loop-digit.digit-index 0) refl c.loop-digit-test.true c.requires in
    omega (arith, c.loop-digit.invariant)

pub loop-digit-preserved : goal.loop-digit-preserved
loop-digit-preserved c =
    let more = number_value-more c.args.digits.now c.loop-digit.digit-index (get_or c.args.digits.now c.loop-digit.digit-index 0) refl c.loop-digit-test.true c.requires in
    omega (arith, c.loop-digit.invariant, more, c.min-number.ensures)
