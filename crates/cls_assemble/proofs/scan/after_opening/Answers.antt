use Rattle.cls_assemble.proofs.Numerals.{prefix_len-front}
use Rattle.cls_assemble.proofs.scan.after_opening.Goals as goal

pub hole_number-requires : goal.hole_number-requires
hole_number-requires c = prefix_len-front c.args.bytes.now c.digit_count-digits.result c.digit_count-digits.ensures.count
