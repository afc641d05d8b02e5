use Rattle.cls_core.specs.Renumbering.{renumbered}
use Rattle.cls_core.specs.Rows.{filed_rows}
use Rattle.cls_core.proofs.Canonical.{canonical-unique}
use Rattle.cls_core.proofs.Closure.{replay-sound, complete-closure}
use Rattle.cls_core.proofs.Renumbering.{renumbered-canonical}
use Rattle.cls_callers.proofs.laws.canonical_rows_are_from_scratch.Goals as goal

pub returns : goal.returns
returns g c = λ tag start rows es t k h.
    let eq = g.E.Goal.PartialEq.eq in
    let exact = g.met.E.Goal.Key.exact in
    let reflexive = g.met.E.Goal.Eq.laws.refl in
    let is_answer = g.E.Expand.answers tag in
    let unique = g.met.E.Expand.one_answer tag in
    let all = filed_rows t.goals t.states in
    canonical-unique is_answer start unique eq rows (renumbered all) k
    (renumbered-canonical eq exact reflexive is_answer start all
    (complete-closure eq exact reflexive is_answer start unique t (replay-sound eq exact reflexive is_answer start es t h.0) h.1))
