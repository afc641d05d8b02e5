use Rattle.std.proofs.Common.{◌≡◌, ◌++◌, take}
use Rattle.cls_check.proofs.found.put_all.Given as goal

abbrev pub invariant-loop-number : goal.invariant-loop-number
invariant-loop-number l = l.positions.items ≡ l.initial.positions.items ++ take l.number-index l.numbers
