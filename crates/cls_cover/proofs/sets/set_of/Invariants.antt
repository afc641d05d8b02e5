use Rattle.std.proofs.Common.{take}
use Rattle.cls_cover.specs.Sets.{IsSetOf}
use Rattle.cls_cover.proofs.sets.set_of.Given as goal

abbrev pub invariant-loop-x : goal.invariant-loop-x
invariant-loop-x l = IsSetOf (take l.x-index l.positions) l.set
