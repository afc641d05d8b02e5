use Rattle.std.proofs.Common.{◌≡◌, ◌<◌, ℕ, length}
use Rattle.std.specs.Prelude.{slice_index}
use Rattle.cls_walk.proofs.smallest.ones.Given as goal

abbrev pub invariant-loop-node : goal.invariant-loop-node
invariant-loop-node l = record {
  long : length l.least.items ≡ l._node;
  ones : (n : ℕ) → n < l._node → slice_index l.least.items n ≡ 1;
}
