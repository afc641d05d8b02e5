use Rattle.cls_core.proofs.Canonical.{canonical-unique}
use Rattle.cls_core.proofs.laws.the_canonical_rows_are_one.Goals as goal

pub returns : goal.returns
returns g c =
    λ tag start rows others. canonical-unique (g.E.Expand.answers tag) start (g.met.E.Expand.one_answer tag) g.E.Goal.PartialEq.eq rows others
