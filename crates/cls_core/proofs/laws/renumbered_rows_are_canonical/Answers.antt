use Rattle.cls_core.specs.Rows.{filed_rows}
use Rattle.cls_core.proofs.Closure.{replay-sound, complete-closure}
use Rattle.cls_core.proofs.Renumbering.{renumbered-canonical}
use Rattle.cls_core.proofs.laws.renumbered_rows_are_canonical.Goals as goal

pub returns : goal.returns
returns g c = λ tag start es t h.
    let eq = g.E.Goal.PartialEq.eq in
    let exact = g.met.E.Goal.Key.exact in
    let reflexive = g.met.E.Goal.Eq.laws.refl in
    let is_answer = g.E.Expand.answers tag in
    let unique = g.met.E.Expand.one_answer tag in
    renumbered-canonical eq exact reflexive is_answer start (filed_rows t.goals t.states) (complete-closure eq exact reflexive is_answer start unique t (replay-sound eq exact reflexive is_answer start es t h.0) h.1)
