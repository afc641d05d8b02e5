use Rattle.std.proofs.Common.{◌≡◌, take}
use Rattle.cls_path.specs.Paths.{listed}
use Rattle.cls_expand.specs.Making.{gathered, picked_of}
use Rattle.cls_expand.proofs.arguments.gather.Given as goal

abbrev pub invariant-loop-i : goal.invariant-loop-i
invariant-loop-i l = listed l.paths.items ≡ gathered l.place (picked_of l.arrows (take l.i-index l.cover))
