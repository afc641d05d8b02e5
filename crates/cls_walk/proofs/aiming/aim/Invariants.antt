use Rattle.std.proofs.Common.{ℕ, List, take, map}
use Rattle.std.specs.List.{flat_map}
use Rattle.cls_base.specs.declared.rule.Rule.{Rule}
use Rattle.cls_walk.specs.FrameAiming.{Adds}
use Rattle.cls_walk.specs.FrameAims.{aims_at}
use Rattle.cls_walk.specs.FrameColumns.{place_of}
use Rattle.cls_walk.specs.FrameGuides.{least_of, IsGuide}
use Rattle.cls_walk.specs.FrameLevels.{levels_of}
use Rattle.cls_walk.proofs.aiming.aim.Given as goal

abbrev pub invariant-loop-place : goal.invariant-loop-place
invariant-loop-place l = (book : List (List (Rule ℕ))) (cost : ℕ → ℕ) → IsGuide book cost l.fn.guide → Adds (flat_map (aims_at book (least_of l.fn.guide) (levels_of l.levels l.below) l.left) (map place_of (take l.place-index l.places))) l.fn.aims.items l.aims.items
