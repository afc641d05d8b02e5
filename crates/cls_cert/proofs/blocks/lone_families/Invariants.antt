use Rattle.std.proofs.Common.{◌≡◌, map, take}
use Rattle.cls_library.specs.Families.{alone}
use Rattle.cls_cert.proofs.blocks.lone_families.Given as goal

abbrev pub invariant-loop-position : goal.invariant-loop-position
invariant-loop-position l = l.families.items ≡ map alone (take l.position-index l.positions)
