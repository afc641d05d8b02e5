use Rattle.std.proofs.Common.{ℕ}
use Rattle.cls_walk.specs.Counts.{HeadRule}
use Rattle.cls_walk.specs.FrameBegins.{AreTotals}
use Rattle.cls_walk.specs.FrameOffered.{AreGatheredTo}
use Rattle.cls_walk.specs.Openings.{ArePut}
use Rattle.cls_walk.proofs.offers.gather_by.Given as goal

abbrev pub invariant-loop-index : goal.invariant-loop-index
invariant-loop-index l = record {
  put : ArePut l.first l.fn.offers.items l.offers.items;
  gathered : (own : HeadRule → ℕ) → AreTotals own l.heads l.sizes → AreGatheredTo own l.size l.spare l.first l.fn.aim.behind l.pairs l.heads l.index l.offers.items;
}
