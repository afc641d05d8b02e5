use Rattle.std.proofs.Common.{sym, subst, ◌≡◌, Some, slice_get}
use Rattle.std.proofs.lemmas.Option.{slice_get_within}
use Rattle.cls_core.specs.declared.state.RowState.TheVariants.{Held}
use Rattle.cls_table.proofs.Lawful.{row-goal, seen}
use Rattle.cls_table.proofs.Completing.{file-filed}
use Rattle.cls_table.proofs.progress.Progress.file_held.Goals as goal

pub goal-requires : goal.goal-requires
goal-requires g c =
    let i = c.self.inside in
    let held = subst (λ v. slice_get v.rows.states c.args.row ≡ Some (Held c.args.worker)) (sym c.self.view_is)
    c.requires.held in
    let at = row-goal g.E.Goal.PartialEq.eq g.E.Expand.answers g.E.Expand.ready g.met.E.Goal.Key.exact
    g.met.E.Goal.Eq.laws.refl (seen i.origin i.core.rows i.core.history) c.args.row (Held c.args.worker)
    c.self.invariant held in
    slice_get_within i.core.rows.goals c.args.row at.0 at.1

pub returns-in-Ok-Kept-clause-filed : goal.returns-in-Ok-Kept-clause-filed
returns-in-Ok-Kept-clause-filed g c =
    let o = rw c.in-Ok-Kept.field-0-is at c.in-Ok-Kept.ensures.outcome in
    file-filed g.E.Goal.PartialEq.eq c.args.self.now c.file.new.self c.args.worker c.args.row _ c.requires.held o.2
