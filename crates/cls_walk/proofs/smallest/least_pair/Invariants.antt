use Rattle.std.proofs.Common.{ℕ, map, take}
use Rattle.cls_walk.specs.FrameColumns.{pair_of}
use Rattle.cls_walk.specs.FrameRules.{pair_size, IsLowest}
use Rattle.cls_walk.proofs.smallest.least_pair.Given as goal

abbrev pub invariant-loop-pair : goal.invariant-loop-pair
invariant-loop-pair l = IsLowest (ℕ × ℕ) (pair_size l.least) l.most (map pair_of (take l.pair-index l.pairs)) l.best
