use Rattle.std.proofs.Common.{◌+◌, ℕ, take, map}
use Rattle.cls_walk.specs.FrameAiming.{Adds}
use Rattle.cls_walk.specs.FrameColumns.{pair_of}
use Rattle.cls_walk.specs.FrameGuides.{least_of}
use Rattle.cls_walk.proofs.aiming.step_by.Given as goal

abbrev pub invariant-loop-pair : goal.invariant-loop-pair
invariant-loop-pair l = Adds (map (λ (p : ℕ × ℕ). (p.0, least_of l.fn.guide p.1 + l.aim.behind)) (map pair_of (take l.pair-index l.pair-items))) l.fn.aims.items l.aims.items
