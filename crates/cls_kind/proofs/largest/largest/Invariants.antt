use Rattle.std.proofs.Common.{map, take}
use Rattle.cls_kind.specs.Ranges.{AreLargest, range_of, chosen_of}
use Rattle.cls_kind.proofs.largest.largest.Given as goal

abbrev pub invariant-loop-range : goal.invariant-loop-range
invariant-loop-range l = AreLargest (map range_of (take l.range-index l.ranges)) (map chosen_of l.chosen.items)
