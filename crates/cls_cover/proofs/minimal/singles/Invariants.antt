use Rattle.std.proofs.Common.{◌≡◌, map, take}
use Rattle.cls_cover.specs.Growing.{single}
use Rattle.cls_cover.proofs.minimal.singles.Given as goal

abbrev pub invariant-loop-x : goal.invariant-loop-x
invariant-loop-x l = l.lists ≡ map single (take l.x-index l.family)
