use Rattle.std.proofs.Common.{◌≡◌, ◌++◌, ◌+◌}
use Rattle.std.specs.Prelude.{replicate, vec_len}
use Rattle.std.specs.Vec.{vec_capacity}
use Rattle.cls_core.specs.declared.state.RowState.TheVariants.{Free}
use Rattle.cls_core.proofs.machine.add_free.Given as goal

abbrev pub invariant-loop-row : goal.invariant-loop-row
invariant-loop-row l =
    (l.states.items ≡ l.initial.states.items ++ replicate l._row Free)
    × (vec_len l.states ≡ vec_len l.initial.states + l._row)
    × (vec_capacity l.states ≡ vec_capacity l.initial.states)
