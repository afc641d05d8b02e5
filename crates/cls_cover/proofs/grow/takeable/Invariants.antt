use Rattle.std.proofs.Common.{take}
use Rattle.cls_cover.specs.Groups.{together}
use Rattle.cls_cover.proofs.Taking.{AreTaken}
use Rattle.cls_cover.proofs.grow.takeable.Given as goal

abbrev pub invariant-loop-place : goal.invariant-loop-place
invariant-loop-place l = AreTaken l.front l.cover l.limit (together (take l.place l.groups)) l.found.items
