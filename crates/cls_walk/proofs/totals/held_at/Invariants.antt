use Rattle.std.proofs.Common.{◌≡◌}
use Rattle.cls_walk.specs.Tables.{capped, number_at}
use Rattle.cls_walk.specs.Totals.{total_made}
use Rattle.cls_walk.proofs.totals.held_at.Given as goal

abbrev pub invariant-loop-smaller : goal.invariant-loop-smaller
invariant-loop-smaller l = l.made ≡ capped (total_made (number_at l.table) l.width l.smaller)
