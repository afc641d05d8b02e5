use Rattle.std.proofs.Common.{List, arith, map, subst}
use Rattle.cls_enum.proofs.Members.{take-whole}
use Rattle.cls_term.specs.Costs.{cost_of}
use Rattle.cls_walk.specs.Counts.{HeadRule}
use Rattle.cls_walk.specs.FrameBegins.{no_head}
use Rattle.cls_walk.specs.FrameColumns.{head_of}
use Rattle.cls_walk.specs.FrameRules.{head_size, IsLowest}
use Rattle.cls_walk.specs.declared.rules.Head.{Head}
use Rattle.cls_walk.proofs.FrameLeast.{lowest-next, lowest-none}
use Rattle.cls_walk.proofs.smallest.least_head.Goals as goal

pub loop-head-init : goal.loop-head-init
loop-head-init c = lowest-none (head_size (cost_of c.args.costs.now) c.args.least.now) c.args.most

pub loop-head-preserved : goal.loop-head-preserved
loop-head-preserved c = lowest-next (head_size (cost_of c.args.costs.now) c.args.least.now) c.args.most head_of c.args.heads.now c.loop-head.head-index no_head c.loop-head.best c.size_of_head.result c.lesser-best.result
    c.loop-head-test.true (omega (arith, c.ranges.most.fits)) c.loop-head.invariant c.size_of_head.ensures c.lesser-best.ensures

pub returns : goal.returns
returns c = let P : List Head → Type 0 = λ hs. IsLowest HeadRule (head_size (cost_of c.args.costs.now) c.args.least.now) c.args.most (map head_of hs) c.loop-head.best in subst P (take-whole c.loop-head.head-index c.args.heads.now c.loop-head-test.false) c.loop-head.invariant
