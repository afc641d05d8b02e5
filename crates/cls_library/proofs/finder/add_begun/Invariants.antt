use Rattle.std.proofs.Common.{◌≡◌, ◌++◌, map, take}
use Rattle.cls_library.specs.Families.{alone}
use Rattle.cls_library.proofs.finder.add_begun.Given as goal

abbrev pub invariant-loop-position : goal.invariant-loop-position
invariant-loop-position l = l.families.items ≡ l.fn.families.items ++ map alone (take l.position-index l.position-items)
