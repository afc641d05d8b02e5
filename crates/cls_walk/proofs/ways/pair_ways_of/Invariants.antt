use Rattle.std.proofs.Common.{◌≡◌, ◌-◌, ◌*◌}
use Rattle.cls_walk.specs.Counts.{total_below}
use Rattle.cls_walk.specs.Stages.{counts}
use Rattle.cls_walk.specs.Tables.{capped}
use Rattle.cls_walk.proofs.ways.pair_ways_of.Given as goal

abbrev pub invariant-loop-smaller : goal.invariant-loop-smaller
invariant-loop-smaller l = l.total ≡ capped (total_below l.smaller (λ t. counts l.stage t l.left * counts l.stage (l.stage.size - t) l.right))
