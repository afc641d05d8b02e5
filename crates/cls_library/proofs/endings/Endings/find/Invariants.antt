use Rattle.std.proofs.Common.{◌≡◌, drop}
use Rattle.std.specs.List.{list_any}
use Rattle.cls_library.specs.contracts.ending.EndingPartialEq.TheImpl.{eq-value}
use Rattle.cls_library.proofs.endings.Endings.find.Given as goal

abbrev pub invariant-loop-place : goal.invariant-loop-place
invariant-loop-place l = list_any (eq-value.it l.ending) (drop l.place l.kind-items) ≡ list_any (eq-value.it l.ending) l.kind-items
