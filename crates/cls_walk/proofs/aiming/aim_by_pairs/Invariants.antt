use Rattle.std.proofs.Common.{take, map}
use Rattle.std.specs.List.{flat_map}
use Rattle.cls_walk.specs.FrameAiming.{aimed_pair, Adds}
use Rattle.cls_walk.specs.FrameColumns.{pair_of}
use Rattle.cls_walk.proofs.aiming.aim_by_pairs.Given as goal

abbrev pub invariant-loop-pair : goal.invariant-loop-pair
invariant-loop-pair l = Adds (flat_map (aimed_pair l.node l.behind) (map pair_of (take l.pair-index l.pairs))) l.fn.aims.items l.aims.items
