use Rattle.std.proofs.Common.{◌≡◌, ◌++◌, drop}
use Rattle.cls_library.specs.Splits.{places_from}
use Rattle.cls_library.proofs.column.Column.new.Given as goal

abbrev pub invariant-loop-i : goal.invariant-loop-i
invariant-loop-i l = l.places.items ++ places_from l.fn.count l.i (drop l.i l.paths) ≡ places_from l.fn.count 0 l.paths
