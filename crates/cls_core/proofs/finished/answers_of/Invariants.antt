use Rattle.std.proofs.Common.{◌≡◌, ◌++◌}
use Rattle.cls_core.specs.Rows.{answers_in}
use Rattle.cls_core.proofs.finished.answers_of.Given as goal

abbrev pub invariant-loop-state : goal.invariant-loop-state
invariant-loop-state l = answers_in l.fn.states.items ≡ l.answers.items ++ answers_in l.state-iterator.rest.items
