use Rattle.cls_core.proofs.Renumbering.{renumbered_at-canonical}
use Rattle.cls_core.proofs.laws.renumbered_closures_are_canonical.Goals as goal

pub returns : goal.returns
returns g c = λ tag root h rows k closure at.
    let eq = g.E.Goal.PartialEq.eq in
    let exact = g.met.E.Goal.Key.exact in
    let reflexive = g.met.E.Goal.Eq.laws.refl in
    renumbered_at-canonical eq exact reflexive (g.E.Expand.answers tag) root rows closure k h at
