use Rattle.std.proofs.Common.{[], take, map}
use Rattle.cls_enum.specs.Members.{IsIn}
use Rattle.cls_walk.specs.FrameColumns.{place_of}
use Rattle.cls_walk.proofs.places.is_complete.Given as goal

abbrev pub invariant-loop-place : goal.invariant-loop-place
invariant-loop-place l = IsIn (map place_of (take l.place-index l.places)) (l.node, []) → ⊥
