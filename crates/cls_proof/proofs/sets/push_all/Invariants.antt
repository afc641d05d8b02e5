use Rattle.std.proofs.Common.{◌≡◌, ◌++◌, take}
use Rattle.cls_proof.proofs.sets.push_all.Given as goal

abbrev pub invariant-loop-number : goal.invariant-loop-number
invariant-loop-number l = l.column.items ≡ l.initial.column.items ++ take l.number-index l.numbers
