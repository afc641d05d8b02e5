use Rattle.std.proofs.Common.{ℕ, ◌<◌}
use Rattle.cls_walk.specs.Counts.{HeadRule}
use Rattle.cls_walk.specs.FrameBegins.{AreSized}
use Rattle.cls_walk.specs.FrameLevels.{levels_of}
use Rattle.cls_walk.specs.FrameOffered.{AreGatheredAt}
use Rattle.cls_walk.specs.Openings.{ArePut}
use Rattle.cls_walk.proofs.offers.gather.Given as goal

abbrev pub invariant-loop-pairs : goal.invariant-loop-pairs
invariant-loop-pairs l = record {
  put : ArePut l.first l.fn.offers.items l.offers.items;
  gathered : (own : HeadRule → ℕ) → AreSized own l.fn.guide.rules.now l.fn.guide.sizes.now → (q : ℕ) → q < l.pairs
      → AreGatheredAt own l.size l.spare l.first l.fn.guide.rules.now q (levels_of l.levels l.top q) l.offers.items;
}
