use Rattle.std.proofs.Common.{take}
use Rattle.cls_library.proofs.Marking.{EachDeep}
use Rattle.cls_library.proofs.depths.Depths.of.Given as goal

abbrev pub invariant-loop-kind : goal.invariant-loop-kind
invariant-loop-kind l = EachDeep l.word (take l.kind-index l.kinds)
