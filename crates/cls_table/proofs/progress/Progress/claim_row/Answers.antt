use Rattle.std.proofs.Common.{sym, subst, ◌≡◌, ◌≤◌, Some, slice_get}
use Rattle.cls_core.specs.declared.state.RowState.TheVariants.{Free}
use Rattle.cls_table.proofs.Lawful.{seen, lawful-claim}
use Rattle.cls_table.proofs.progress.Progress.claim_row.Goals as goal

pub invariant_of-self-2 : goal.invariant_of-self-2
invariant_of-self-2 g c =
    let i = c.self.inside in
    let free = subst (λ v. slice_get v.rows.states c.args.row ≡ Some Free) (sym c.self.view_is) c.requires.free in
    let most = subst (λ v. c.args.worker ≤ v.tag.workers) (sym c.self.view_is) c.requires.worker in
    lawful-claim g.E.Goal.PartialEq.eq g.E.Expand.answers g.E.Expand.ready (seen i.origin i.core.rows i.core.history)
    c.args.worker c.args.row _ _ c.self.invariant most free c.in_ok-claim.ensures.rows c.in_ok-claim.ensures.history
