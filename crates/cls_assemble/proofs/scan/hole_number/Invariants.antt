use Rattle.std.proofs.Common.{◌≡◌, ◌+◌, min, take}
use Rattle.cls_base.specs.Limits.{max_hole}
use Rattle.cls_lexer.specs.Numerals.{number_value}
use Rattle.cls_assemble.proofs.scan.hole_number.Given as goal

abbrev pub invariant-loop-digit : goal.invariant-loop-digit
invariant-loop-digit l = l.number ≡ min (number_value (take l.digit-index l.digits)) (max_hole + 1)
