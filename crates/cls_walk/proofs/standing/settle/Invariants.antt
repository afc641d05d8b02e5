use Rattle.std.proofs.Common.{length}
use Rattle.cls_walk.specs.FrameHeaps.{stack_of, Settling}
use Rattle.cls_walk.proofs.standing.settle.Given as goal

abbrev pub invariant-loop-below : goal.invariant-loop-below
invariant-loop-below l = Settling l.rules l.fn.frames l.frames l.fn.top l.now

abbrev pub decreases-loop-below : goal.decreases-loop-below
decreases-loop-below l = length (stack_of l.frames l.now)
