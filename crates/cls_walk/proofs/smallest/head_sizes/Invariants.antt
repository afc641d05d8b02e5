use Rattle.std.proofs.Common.{◌≡◌, ◌<◌, ℕ, [], length}
use Rattle.std.specs.Prelude.{slice_index_or}
use Rattle.cls_term.specs.Costs.{cost_of}
use Rattle.cls_walk.specs.FrameBegins.{heads_in, AreTotals}
use Rattle.cls_walk.specs.FrameRules.{head_size}
use Rattle.cls_walk.proofs.smallest.head_sizes.Given as goal

abbrev pub invariant-loop-heads : goal.invariant-loop-heads
invariant-loop-heads l = record {
  long : length l.sizes ≡ l.heads-index;
  each : (n : ℕ) → n < l.heads-index → AreTotals (head_size (cost_of l.costs) l.least) (heads_in l.fn.rules n) (slice_index_or l.sizes n []);
}
