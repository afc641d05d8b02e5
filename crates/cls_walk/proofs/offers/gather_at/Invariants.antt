use Rattle.std.proofs.Common.{ℕ, map, take}
use Rattle.cls_walk.specs.Counts.{HeadRule}
use Rattle.cls_walk.specs.FrameBegins.{aim_of, AreSized}
use Rattle.cls_walk.specs.FrameOffered.{AreGatheredAt}
use Rattle.cls_walk.specs.Openings.{ArePut}
use Rattle.cls_walk.proofs.offers.gather_at.Given as goal

abbrev pub invariant-loop-aim : goal.invariant-loop-aim
invariant-loop-aim l = record {
  put : ArePut l.first l.fn.offers.items l.offers.items;
  gathered : (own : HeadRule → ℕ) → AreSized own l.fn.guide.rules.now l.fn.guide.sizes.now
      → AreGatheredAt own l.size l.spare l.first l.fn.guide.rules.now l.pairs (map aim_of (take l.aim-index l.level)) l.offers.items;
}
