use Rattle.std.proofs.Common.{take}
use Rattle.cls_cover.specs.Sets.{AreSetsOf}
use Rattle.cls_cover.proofs.sets.sets_of.Given as goal

abbrev pub invariant-loop-family : goal.invariant-loop-family
invariant-loop-family l = AreSetsOf (take l.family-index l.families) l.sets.items
