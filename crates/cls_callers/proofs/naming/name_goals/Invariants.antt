use Rattle.std.proofs.Common.{◌≡◌, map, take}
use Rattle.cls_callers.proofs.naming.name_goals.Given as goal

abbrev pub invariant-loop-number : goal.invariant-loop-number
invariant-loop-number g l = l.goals.items ≡ map (g.N.Names.named l.names) (take l.number-index l.numbers)
