use Rattle.std.proofs.Common.{◌≢◌, ◌<◌, ℕ, Some}
use Rattle.std.specs.Prelude.{slice_get}
use Rattle.cls_core.specs.declared.state.RowState.TheVariants.{Free}
use Rattle.cls_core.proofs.machine.Core.any_free.Given as goal

abbrev pub invariant-loop-row : goal.invariant-loop-row
invariant-loop-row g l = (k : ℕ) → k < l.row → slice_get l.self.rows.states k ≢ Some Free
