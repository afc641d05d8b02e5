use Rattle.std.proofs.Common.{◌≡◌}
use Rattle.cls_live.specs.Slots.{first_slots}
use Rattle.cls_live.proofs.slots.slots_of.Given as goal

abbrev pub invariant-loop-slot : goal.invariant-loop-slot
invariant-loop-slot l = l.live.items ≡ first_slots l.slot
