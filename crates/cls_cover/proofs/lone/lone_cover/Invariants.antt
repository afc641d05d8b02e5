use Rattle.std.proofs.Common.{take}
use Rattle.std.specs.Prelude.{map}
use Rattle.cls_cover.specs.Growing.{single}
use Rattle.cls_cover.specs.Forced.{IsForced}
use Rattle.cls_cover.proofs.lone.lone_cover.Given as goal

abbrev pub invariant-loop-position : goal.invariant-loop-position
invariant-loop-position l = IsForced (map single (take l.position-index l.positions)) l.cover.items
