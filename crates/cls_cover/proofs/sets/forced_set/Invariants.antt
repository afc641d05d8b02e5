use Rattle.std.proofs.Common.{take}
use Rattle.cls_cover.specs.Sets.{members}
use Rattle.cls_cover.specs.Forced.{IsForced}
use Rattle.cls_cover.proofs.sets.forced_set.Given as goal

abbrev pub invariant-loop-family : goal.invariant-loop-family
invariant-loop-family l = IsForced (take l.family-index l.families) (members l.set)
