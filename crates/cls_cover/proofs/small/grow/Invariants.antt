use Rattle.std.proofs.Common.{take}
use Rattle.cls_cover.specs.Choosing.{AreGiven}
use Rattle.cls_cover.proofs.small.grow.Given as goal

abbrev pub invariant-loop-cover : goal.invariant-loop-cover
invariant-loop-cover l = AreGiven l.begun l.limit (take l.cover-index l.covers) l.list.items
