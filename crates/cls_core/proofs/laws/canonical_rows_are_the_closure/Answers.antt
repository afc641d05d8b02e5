use Rattle.cls_core.proofs.Grammar.{canonical-closure}
use Rattle.cls_core.proofs.laws.canonical_rows_are_the_closure.Goals as goal

pub returns : goal.returns
returns g c =
    λ tag start rows. canonical-closure g.E.Goal.PartialEq.eq (g.E.Expand.answers tag) start (g.met.E.Expand.one_answer tag) rows
