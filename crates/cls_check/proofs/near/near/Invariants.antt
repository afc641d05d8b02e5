use Rattle.std.proofs.Common.{◌≡◌, ◌++◌, take}
use Rattle.std.specs.List.{flat_map}
use Rattle.cls_check.specs.Near.{at}
use Rattle.cls_check.proofs.near.near.Given as goal

abbrev pub invariant-loop-number : goal.invariant-loop-number
invariant-loop-number l = l.near.items ≡ l.index.small ++ flat_map (at l.index.under.items) (take l.number-index l.set)
