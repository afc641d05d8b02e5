use Rattle.std.proofs.Common.{◌≡◌, ◌<◌, ℕ, length}
use Rattle.std.specs.Prelude.{slice_index, slice_index_or}
use Rattle.cls_term.specs.Costs.{cost_of}
use Rattle.cls_walk.specs.FrameBegins.{no_head}
use Rattle.cls_walk.specs.FrameColumns.{head_of}
use Rattle.cls_walk.specs.FrameRules.{head_size}
use Rattle.cls_walk.specs.Tables.{capped}
use Rattle.cls_walk.proofs.smallest.head_sizes_of.Given as goal

abbrev pub invariant-loop-head : goal.invariant-loop-head
invariant-loop-head l = record {
  long : length l.sizes.items ≡ l.head-index;
  each : (i : ℕ) → i < l.head-index → slice_index l.sizes.items i ≡ capped (head_size (cost_of l.costs) l.least (head_of (slice_index_or l.heads i no_head)));
}
