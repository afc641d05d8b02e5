use Rattle.std.proofs.Common.{◌≡◌}
use Rattle.std.specs.Prelude.{replicate}
use Rattle.cls_live.specs.Slots.{nothing}
use Rattle.cls_live.proofs.updates.unknowns.Given as goal

abbrev pub invariant-loop : goal.invariant-loop
invariant-loop l = l.blanks.items ≡ replicate l.counter nothing
