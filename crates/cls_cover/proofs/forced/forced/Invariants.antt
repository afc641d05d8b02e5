use Rattle.std.proofs.Common.{take}
use Rattle.cls_cover.specs.Forced.{IsForced}
use Rattle.cls_cover.proofs.forced.forced.Given as goal

abbrev pub invariant-loop-family : goal.invariant-loop-family
invariant-loop-family l = IsForced (take l.family-index l.families) l.positions.items
