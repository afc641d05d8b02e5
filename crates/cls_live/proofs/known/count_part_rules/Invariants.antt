use Rattle.std.proofs.Common.{◌≡◌, take}
use Rattle.cls_live.specs.Updates.{rules_in_parts}
use Rattle.cls_live.proofs.known.count_part_rules.Given as goal

abbrev pub invariant-loop-part : goal.invariant-loop-part
invariant-loop-part l = l.count ≡ rules_in_parts (take l.part-index l.parts)
