use Rattle.std.proofs.Common.{◌≡◌, ◌+◌, ◌-◌, ℕ, List, length}
use Rattle.cls_base.specs.declared.rule.Rule.{Rule}
use Rattle.cls_walk.specs.FrameAiming.{levels_from}
use Rattle.cls_walk.specs.FrameAims.{AreLevels}
use Rattle.cls_walk.specs.FrameGuides.{least_of, IsGuide}
use Rattle.cls_walk.specs.FrameLevels.{all_levels, AreCuts, AreGrownLevels}
use Rattle.cls_walk.proofs.aiming.climb.Given as goal

abbrev pub invariant-loop-pairs : goal.invariant-loop-pairs
invariant-loop-pairs l = record {
  cuts : AreCuts 0 (length l.levels.aims.items) l.levels.ends.items;
  grown : AreGrownLevels l.fn.levels l.levels;
  stacks : l.levels.stacks.items ≡ l.fn.levels.stacks.items;
  count : length l.levels.ends.items ≡ length l.fn.levels.ends.items + l._pairs;
  steps : (book : List (List (Rule ℕ))) (cost : ℕ → ℕ) → IsGuide book cost l.fn.guide → AreLevels book (least_of l.fn.guide) l._pairs (levels_from (all_levels l.levels) (length l.fn.levels.ends.items - 1));
}
