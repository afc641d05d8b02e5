use Rattle.std.proofs.Common.{◌≡◌, take}
use Rattle.cls_walk.specs.Stages.{rules_count}
use Rattle.cls_walk.proofs.upper.all_ways_of.Given as goal

abbrev pub invariant-loop-place : goal.invariant-loop-place
invariant-loop-place l = l.total ≡ rules_count l.stage (take l.place l.rules)
