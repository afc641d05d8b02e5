use Rattle.std.proofs.Common.{◌∙◌, ap, subst, sym, Some}
use Rattle.cls_table.specs.declared.tag.Tag.{Tag}
use Rattle.cls_table.specs.Completing.{IsComplete}
use Rattle.cls_table.proofs.Seating.{tag-seen, tag-known}
use Rattle.cls_table.proofs.shared.SharedTable.close.Goals as goal

pub returns-in-Ok-clause-complete : goal.returns-in-Ok-clause-complete
returns-in-Ok-clause-complete g c tag has =
    let s = c.seat.invariant in
    let same = ap (λ t. t.tag) c.audit.ensures.same ∙ (c.close-table.ensures.before s.tag s.knows
    ∙ tag-known _ _ _ _ _ s c.seat.view_is tag has) in
    subst (λ (x : Tag g.row.E-Tag.Denot g.row.E-Goal.Denot).
    IsComplete g.E.Goal.PartialEq.eq g.E.Expand.answers x c.in-Ok.finished) same c.in-Ok.ensures.complete

pub returns-clause-tag : goal.returns-clause-tag
returns-clause-tag g c =
    let s = c.seat.invariant in
    let closed = c.close-table.ensures.before s.tag s.knows in
    let same = sym (ap (λ t. t.tag) c.in-Err.ensures.err.0 ∙ (ap (λ t. t.tag) c.audit.ensures.same ∙ closed)) in
    tag-seen _ _ _ _ _ s c.seat.view_is ∙ ap Some same
