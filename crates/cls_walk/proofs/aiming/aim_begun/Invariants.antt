use Rattle.std.proofs.Common.{take, map}
use Rattle.std.specs.List.{flat_map}
use Rattle.cls_walk.specs.FrameAiming.{aimed_begun, Adds}
use Rattle.cls_walk.specs.FrameBegins.{aim_of}
use Rattle.cls_walk.proofs.aiming.aim_begun.Given as goal

abbrev pub invariant-loop-aim : goal.invariant-loop-aim
invariant-loop-aim l = Adds (flat_map (aimed_begun l.place l.node l.own) (map aim_of (take l.aim-index l.level))) l.fn.aims.items l.aims.items
