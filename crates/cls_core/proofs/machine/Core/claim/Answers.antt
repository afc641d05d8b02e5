use Rattle.std.proofs.Common.{arith, inl, inr, refl, ap, sym, subst, Some, slice_get, ◌≡◌, ◌+◌, ◌∷◌, ◌++◌, ◌∙◌, []}
use Rattle.cls_core.specs.declared.state.RowState.TheVariants.{Free}
use Rattle.cls_core.specs.declared.entry.Entry.TheVariants.{Claim}
use Rattle.cls_core.proofs.Columns.{kept-claim}
use Rattle.cls_core.proofs.machine.Core.claim.Goals as goal

pub invariant_of-self-then-row-self : goal.invariant_of-self-then-row-self
invariant_of-self-then-row-self g c =
    let i = c.self.inside in
    let free = subst (λ v. slice_get v.rows.states c.args.row ≡ Some Free) (sym c.self.view_is) c.requires in
    kept-claim i.goals.keys i.states.items i.first i.held i.rules _ i.history.items c.args.row c.args.worker (i.first + 1) _ (Claim c.args.worker c.args.row) _ c.self.invariant free
    (c.push_reserved.ensures.items ∙ ap (λ l. l ++ Claim c.args.worker c.args.row ∷ []) c.in_ok-reserve.ensures.items)
    (omega (arith, c.in_ok-reserve.ensures.ok, c.in_ok-reserve.ensures.len, c.push_reserved.ensures.capacity, i.history.ok.0))
    (inr (refl, c.if-row-self.true))

pub invariant_of-self-else-row-self : goal.invariant_of-self-else-row-self
invariant_of-self-else-row-self g c =
    let i = c.self.inside in
    let free = subst (λ v. slice_get v.rows.states c.args.row ≡ Some Free) (sym c.self.view_is) c.requires in
    kept-claim i.goals.keys i.states.items i.first i.held i.rules _ i.history.items c.args.row c.args.worker i.first _ (Claim c.args.worker c.args.row) _ c.self.invariant free
    (c.push_reserved.ensures.items ∙ ap (λ l. l ++ Claim c.args.worker c.args.row ∷ []) c.in_ok-reserve.ensures.items)
    (omega (arith, c.in_ok-reserve.ensures.ok, c.in_ok-reserve.ensures.len, c.push_reserved.ensures.capacity, i.history.ok.0))
    (inl refl)
