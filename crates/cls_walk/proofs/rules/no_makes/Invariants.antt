use Rattle.std.proofs.Common.{◌≡◌, ◌<◌, ℕ, [], length}
use Rattle.cls_walk.specs.FrameRules.{mades_at}
use Rattle.cls_walk.proofs.rules.no_makes.Given as goal

abbrev pub invariant-loop-node : goal.invariant-loop-node
invariant-loop-node l = record {
  long : length l.makes.items ≡ l._node;
  none : (n : ℕ) → n < l._node → mades_at l.makes.items n ≡ [];
}
