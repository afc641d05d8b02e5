use Rattle.std.proofs.Common.{take}
use Rattle.cls_library.specs.Endings.{AreEndings}
use Rattle.cls_library.proofs.endings.Endings.new.Given as goal

abbrev pub invariant-loop-path : goal.invariant-loop-path
invariant-loop-path l = AreEndings l.kinds.keys l.places.items (take l.path-index l.paths)
