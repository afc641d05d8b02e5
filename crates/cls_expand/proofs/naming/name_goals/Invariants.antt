use Rattle.std.proofs.Common.{◌≡◌, map, take, slice_index_or}
use Rattle.cls_expand.proofs.naming.name_goals.Given as goal

abbrev pub invariant-loop-number : goal.invariant-loop-number
invariant-loop-number g l = l.named.items ≡ map (λ i. slice_index_or l.goals i l.other) (take l.number-index l.numbers)
