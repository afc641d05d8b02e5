use Rattle.std.proofs.Common.{take}
use Rattle.cls_check.specs.Places.{arrows_in}
use Rattle.cls_check.proofs.Arguments.{AreTaken}
use Rattle.cls_check.proofs.argument.argument.Given as goal

abbrev pub invariant-loop-position : goal.invariant-loop-position
invariant-loop-position l = AreTaken l.lib (arrows_in l.lib l.fn.place) (take l.position-index l.positions) l.number l.paths.items
