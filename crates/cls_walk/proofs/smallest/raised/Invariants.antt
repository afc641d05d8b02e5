use Rattle.std.proofs.Common.{◌≡◌, ◌<◌, ℕ, length, map}
use Rattle.std.specs.Prelude.{slice_index}
use Rattle.cls_term.specs.Costs.{cost_of}
use Rattle.cls_walk.specs.FrameBegins.{heads_in}
use Rattle.cls_walk.specs.FrameColumns.{head_of, pair_of}
use Rattle.cls_walk.specs.FrameRules.{pairs_in, IsRaised}
use Rattle.cls_walk.proofs.smallest.raised.Given as goal

abbrev pub invariant-loop-node : goal.invariant-loop-node
invariant-loop-node l = record {
  long : length l.new.items ≡ l.node;
  each : (n : ℕ) → n < l.node → IsRaised (cost_of l.costs) l.least l.most (map head_of (heads_in l.rules n)) (map pair_of (pairs_in l.rules n)) (slice_index l.new.items n);
}
