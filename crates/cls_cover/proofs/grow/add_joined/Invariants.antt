use Rattle.std.proofs.Common.{take}
use Rattle.cls_cover.specs.Growing.{IsPartlyAdded}
use Rattle.cls_cover.proofs.grow.add_joined.Given as goal

abbrev pub invariant-loop-x : goal.invariant-loop-x
invariant-loop-x l = IsPartlyAdded l.front.families.now l.front.count l.cover.positions.items l.fn.list.items (take l.x-index l.found) l.list.items
