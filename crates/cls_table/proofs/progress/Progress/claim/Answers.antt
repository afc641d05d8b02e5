use Rattle.std.proofs.Common.{sym, subst, ◌≡◌, Some, slice_get}
use Rattle.std.proofs.lemmas.Option.{slice_get_within}
use Rattle.cls_core.specs.declared.state.RowState.TheVariants.{Free}
use Rattle.cls_table.proofs.Lawful.{row-goal, seen}
use Rattle.cls_table.proofs.progress.Progress.claim.Goals as goal

pub goal-requires : goal.goal-requires
goal-requires g c =
    let i = c.self.inside in
    let eq = g.E.Goal.PartialEq.eq in
    let free = subst (λ v. slice_get v.rows.states c.args.row ≡ Some Free) (sym c.self.view_is) c.requires.free in
    let at = row-goal eq g.E.Expand.answers g.E.Expand.ready g.met.E.Goal.Key.exact g.met.E.Goal.Eq.laws.refl
    (seen i.origin i.core.rows i.core.history) c.args.row Free c.self.invariant free in
    slice_get_within i.core.rows.goals c.args.row at.0 at.1
