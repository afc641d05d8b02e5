use Rattle.std.proofs.Common.{take, map}
use Rattle.cls_walk.specs.FrameColumns.{made_of, place_of, Grows, IsPassed}
use Rattle.cls_walk.proofs.places.pass.Given as goal

abbrev pub invariant-loop-pair : goal.invariant-loop-pair
invariant-loop-pair l = Grows (IsPassed (map made_of (take l.pair-index l.made)) (map place_of l.above)) l.fn.places.items l.places.items
