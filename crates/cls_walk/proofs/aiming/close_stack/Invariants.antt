use Rattle.std.proofs.Common.{◌≡◌, length, take}
use Rattle.cls_walk.specs.FrameLevels.{AreCuts}
use Rattle.cls_walk.proofs.aiming.close_stack.Given as goal

abbrev pub invariant-loop-between : goal.invariant-loop-between
invariant-loop-between l = record {
  cuts : AreCuts 0 l.first l.stacks.items;
  grown : take (length l.fn.stacks.items) l.stacks.items ≡ l.fn.stacks.items;
  count : length l.stacks.items ≡ l._between;
}
