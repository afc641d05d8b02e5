use Rattle.std.proofs.Common.{◌≤◌, take}
use Rattle.cls_term.specs.Costs.{cost_of}
use Rattle.cls_walk.specs.Ends.{CostAtMost}
use Rattle.cls_walk.proofs.ends.greatest_cost.Given as goal

abbrev pub invariant-loop-place : goal.invariant-loop-place
invariant-loop-place l = record {
  kept : l.least ≤ l.best;
  most : CostAtMost (cost_of l.costs) l.best (take l.place l.rules);
}
