use Rattle.std.proofs.Common.{map, take}
use Rattle.cls_term.specs.Costs.{cost_of}
use Rattle.cls_walk.specs.Counts.{HeadRule}
use Rattle.cls_walk.specs.FrameColumns.{head_of}
use Rattle.cls_walk.specs.FrameRules.{head_size, IsLowest}
use Rattle.cls_walk.proofs.smallest.least_head.Given as goal

abbrev pub invariant-loop-head : goal.invariant-loop-head
invariant-loop-head l = IsLowest HeadRule (head_size (cost_of l.costs) l.least) l.most (map head_of (take l.head-index l.heads)) l.best
