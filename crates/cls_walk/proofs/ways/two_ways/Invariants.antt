use Rattle.std.proofs.Common.{◌≡◌, ◌-◌, ◌*◌}
use Rattle.cls_walk.specs.Counts.{total_below}
use Rattle.cls_walk.specs.Tables.{capped, number_at}
use Rattle.cls_walk.proofs.ways.two_ways.Given as goal

abbrev pub invariant-loop-size : goal.invariant-loop-size
invariant-loop-size l = l.total ≡ capped (total_below l.size (λ t. number_at l.table t l.first * number_at l.table (l.rest - t) l.second))
