use Rattle.std.proofs.Common.{ℕ, List, arith, map, subst}
use Rattle.cls_enum.proofs.Members.{take-whole}
use Rattle.cls_walk.specs.FrameColumns.{pair_of}
use Rattle.cls_walk.specs.FrameRules.{pair_size, IsLowest}
use Rattle.cls_walk.specs.declared.rules.Pair.{Pair}
use Rattle.cls_walk.proofs.FrameLeast.{lowest-next, lowest-none}
use Rattle.cls_walk.proofs.FrameRules.{no-pair}
use Rattle.cls_walk.proofs.smallest.least_pair.Goals as goal

pub loop-pair-init : goal.loop-pair-init
loop-pair-init c = lowest-none (pair_size c.args.least.now) c.args.most

pub loop-pair-preserved : goal.loop-pair-preserved
loop-pair-preserved c = lowest-next (pair_size c.args.least.now) c.args.most pair_of c.args.pairs.now c.loop-pair.pair-index no-pair c.loop-pair.best c.size_of_pair.result c.lesser-best.result
    c.loop-pair-test.true (omega (arith, c.ranges.most.fits)) c.loop-pair.invariant c.size_of_pair.ensures c.lesser-best.ensures

pub returns : goal.returns
returns c = let P : List Pair → Type 0 = λ ps. IsLowest (ℕ × ℕ) (pair_size c.args.least.now) c.args.most (map pair_of ps) c.loop-pair.best in subst P (take-whole c.loop-pair.pair-index c.args.pairs.now c.loop-pair-test.false) c.loop-pair.invariant
