use Rattle.std.proofs.Common.{ℕ, List, take, map}
use Rattle.std.specs.List.{flat_map}
use Rattle.cls_base.specs.declared.rule.Rule.{Rule}
use Rattle.cls_walk.specs.FrameAiming.{Adds}
use Rattle.cls_walk.specs.FrameAims.{stepped}
use Rattle.cls_walk.specs.FrameBegins.{aim_of}
use Rattle.cls_walk.specs.FrameGuides.{least_of, IsGuide}
use Rattle.cls_walk.proofs.aiming.step.Given as goal

abbrev pub invariant-loop-aim : goal.invariant-loop-aim
invariant-loop-aim l = (book : List (List (Rule ℕ))) (cost : ℕ → ℕ) → IsGuide book cost l.fn.guide → Adds (flat_map (stepped book (least_of l.fn.guide)) (map aim_of (take l.aim-index l.level))) l.fn.aims.items l.aims.items
