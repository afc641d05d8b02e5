use Rattle.std.proofs.Common.{◌≡◌, ◌+◌, ◌-◌, ℕ, length}
use Rattle.std.specs.Prelude.{None, slice_index_or}
use Rattle.cls_walk.proofs.stretch.keep_in.Given as goal

abbrev pub invariant-loop-column : goal.invariant-loop-column
invariant-loop-column l = (s : ℕ) → slice_index_or l.column.items s None ≡ slice_index_or l.fn.column.items s None

abbrev pub decreases-loop-column : goal.decreases-loop-column
decreases-loop-column l = l.slack + 1 - length l.column.items
