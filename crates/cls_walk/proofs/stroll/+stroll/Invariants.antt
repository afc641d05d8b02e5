use Rattle.std.proofs.Common.{◌≡◌, ℕ, ◌+◌, ◌*◌, ◌≤◌, List, true, length, take}
use Rattle.cls_base.specs.declared.rule.Rule.{Rule}
use Rattle.cls_term.specs.Costs.{cost_of}
use Rattle.cls_walk.specs.FrameGuides.{least_of, IsGuide}
use Rattle.cls_walk.specs.FrameHeaps.{stack_of, AreFrames, AreSameFrames}
use Rattle.cls_walk.specs.FrameLevels.{levels_of, AreLevelColumns, AreSameLevels}
use Rattle.cls_walk.specs.FramePlans.{AreAimed, IsAimed}
use Rattle.cls_walk.specs.FrameWalks.{BeginsTo, IsDueOn, IsOffered}
use Rattle.cls_walk.specs.Frames.{await_count, AreAsking}
use Rattle.cls_walk.specs.Openings.{AreRising, IsGathered}
use Rattle.cls_walk.specs.Stretches.{Remembers}
use Rattle.cls_walk.specs.Walks.{Lists}
use Rattle.cls_walk.proofs.Earliest.{opening_before}
use Rattle.cls_walk.proofs.stroll.+stroll.Given as goal

abbrev pub decreases-go_on : goal.decreases-go_on
decreases-go_on l = 3 * l.size + 1

abbrev pub decreases-open_on : goal.decreases-open_on
decreases-open_on l = 3 * l.size

abbrev pub decreases-descend : goal.decreases-descend
decreases-descend l = 3 * l.size + 2

abbrev pub invariant-go_on-loop-index : goal.invariant-go_on-loop-index
invariant-go_on-loop-index l = record {
  frames : AreFrames l.frames;
  columns : AreLevelColumns l.ahead.levels;
  here : AreSameFrames l.fn.frames l.frames;
  there : AreSameLevels l.fn.ahead.levels l.ahead.levels;
  before : take l.first l.ahead.offers.items ≡ l.fn.ahead.offers.items;
  rising : AreRising l.first l.ahead.offers.items;
  end : l.index-end ≡ length l.ahead.offers.items;
  gathered : (book : List (List (Rule ℕ))) → let cost = cost_of l.plan.costs.now in
      IsGuide book cost l.plan.guide
      → (x k : ℕ) → IsOffered book (least_of l.plan.guide) cost (levels_of l.fn.ahead.levels l.top) l.size l.spare x k → IsGathered l.first l.ahead.offers.items x k;
  awaited : l.walk.awaited.items ≡ l.fn.walk.awaited.items;
  code : l.walk.code.items ≡ l.fn.walk.code.items;
  few : length l.walk.codes ≤ l.plan.take;
  remembers : Remembers l.plan l.fn.walk → Remembers l.plan l.walk;
  listed : (book : List (List (Rule ℕ))) (most : ℕ) → let cost = cost_of l.plan.costs.now in
      let stack = stack_of l.fn.frames l.top in
      IsGuide book cost l.plan.guide → AreAimed book l.plan.guide l.fn.frames l.fn.ahead.levels
      → IsAimed book l.plan.guide l.fn.frames l.fn.ahead.levels l.top most → l.spare ≤ most → AreAsking stack
      → Lists (BeginsTo (IsDueOn book cost l.plan.guide.start stack l.size (l.spare + await_count stack) l.cursor) (opening_before l.first l.ahead.offers.items l.index)) l.fn.walk l.walk true;
}
