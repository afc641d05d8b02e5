use Rattle.std.proofs.Common.{◌≤◌, take}
use Rattle.std.specs.Prelude.{Contains}
use Rattle.cls_library.specs.declared.ending.Ending.{Ending}
use Rattle.cls_library.proofs.column.have_all.Given as goal

abbrev pub invariant-loop-kind : goal.invariant-loop-kind
invariant-loop-kind l = (e : Ending) → Contains (take l.kind-index l.kinds) e → l.count ≤ e.arrows
