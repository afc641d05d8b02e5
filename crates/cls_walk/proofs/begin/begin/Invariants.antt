use Rattle.std.proofs.Common.{ℕ, []}
use Rattle.cls_walk.specs.Counts.{HeadRule}
use Rattle.cls_walk.specs.FrameBegins.{AreSized}
use Rattle.cls_walk.specs.FrameColumns.{Grows}
use Rattle.cls_walk.specs.FrameHeaps.{AreSameFrames}
use Rattle.cls_walk.specs.FrameLevels.{levels_of}
use Rattle.cls_walk.proofs.FrameOpenings.{AreBegunTo}
use Rattle.cls_walk.proofs.begin.begin.Given as goal

abbrev pub invariant-loop-pairs : goal.invariant-loop-pairs
invariant-loop-pairs l = record {
  same : AreSameFrames l.fn.frames l.frames;
  grows : (own : HeadRule → ℕ) → AreSized own l.fn.guide.rules.now l.fn.guide.sizes.now
      → Grows (AreBegunTo own l.fn.guide.rules.now (levels_of l.levels l.fn.top) l.fn.opening.component l.fn.opening.count l.fn.size l.pairs) [] l.frames.made.items;
}
