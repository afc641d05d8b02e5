use Rattle.std.proofs.lemmas.Option.{slice_get_within}
use Rattle.cls_table.proofs.Lawful.{row-goal, seen}
use Rattle.cls_table.proofs.progress.Progress.has_held.Goals as goal

pub goal-requires : goal.goal-requires
goal-requires g c =
    let i = c.self.inside in
    let eq = g.E.Goal.PartialEq.eq in
    let at = row-goal eq g.E.Expand.answers g.E.Expand.ready g.met.E.Goal.Key.exact g.met.E.Goal.Eq.laws.refl
    (seen i.origin i.core.rows i.core.history) c.claim.inside.row _ c.self.invariant
    (c.is_held.ensures.0 c.if-is_held.true) in
    slice_get_within i.core.rows.goals c.claim.inside.row at.0 at.1
