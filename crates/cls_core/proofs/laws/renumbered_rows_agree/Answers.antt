use Rattle.cls_core.specs.Rows.{filed_rows}
use Rattle.cls_core.proofs.Closure.{replay-sound, complete-closure}
use Rattle.cls_core.proofs.Renumbering.{renumbered-agree}
use Rattle.cls_core.proofs.laws.renumbered_rows_agree.Goals as goal

pub returns : goal.returns
returns g c = λ tag start es fs t u h k.
    let eq = g.E.Goal.PartialEq.eq in
    let exact = g.met.E.Goal.Key.exact in
    let reflexive = g.met.E.Goal.Eq.laws.refl in
    let is_answer = g.E.Expand.answers tag in
    let unique = g.met.E.Expand.one_answer tag in
    renumbered-agree eq exact reflexive is_answer start unique (filed_rows t.goals t.states) (filed_rows u.goals u.states)
    (complete-closure eq exact reflexive is_answer start unique t (replay-sound eq exact reflexive is_answer start es t h.0) h.1)
    (complete-closure eq exact reflexive is_answer start unique u (replay-sound eq exact reflexive is_answer start fs u k.0) k.1)
