use Rattle.std.proofs.Common.{◌≡◌, ◌<◌, ℕ, Some}
use Rattle.std.specs.Prelude.{slice_get}
use Rattle.cls_core.specs.declared.state.RowState.{RowState}
use Rattle.cls_core.specs.Machine.{IsFiled}
use Rattle.cls_core.proofs.machine.all_filed.Given as goal

abbrev pub invariant-loop-state : goal.invariant-loop-state
invariant-loop-state l = (k : ℕ) (s : RowState) → k < l.state-index → slice_get l.states k ≡ Some s → IsFiled s
