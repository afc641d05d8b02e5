use Rattle.std.proofs.Common.{◌≡◌, drop, max}
use Rattle.cls_walk.specs.Counts.{greatest, pair_ways, pairs_of}
use Rattle.cls_walk.specs.Stages.{counts}
use Rattle.cls_walk.specs.Tables.{capped}
use Rattle.cls_walk.proofs.lower.greatest_pair.Given as goal

abbrev pub invariant-loop-place : goal.invariant-loop-place
invariant-loop-place l =
    let f = pair_ways (counts l.stage) l.stage.size in
    record {
      most : capped (max l.best (greatest f (pairs_of (drop l.place l.rules)))) ≡ capped (greatest f (pairs_of l.rules));
      small : l.best ≡ capped l.best;
    }
