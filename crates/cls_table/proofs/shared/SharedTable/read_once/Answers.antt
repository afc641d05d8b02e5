use Rattle.std.proofs.Common.{refl, ◌∙◌, ap, subst}
use Rattle.std.specs.Prelude.{IfSome}
use Rattle.std.proofs.lemmas.Option.{IfSome_then}
use Rattle.std.proofs.lemmas.Result.{IfOk-weaker}
use Rattle.cls_table.specs.declared.tag.Tag.{Tag}
use Rattle.cls_table.specs.Completing.{IsComplete, IsCompleteFor}
use Rattle.cls_table.proofs.Seating.{stays-seated, stays-known, seen-after, tag-known}
use Rattle.cls_table.proofs.shared.SharedTable.read_once.Goals as goal

pub invariant_of-seat : goal.invariant_of-seat
invariant_of-seat g c =
    let s = c.seat.invariant in
    stays-seated c.put.new.seat c.seat.inside.seat _ _ _ _ s (c.take-table.ensures.before s.tag s.knows)
    c.put.ensures.knows s.some_part

pub returns-clause-seat : goal.returns-clause-seat
returns-clause-seat g c =
    let s = c.seat.invariant in
    let same = c.take-table.ensures.before s.tag s.knows in
    seen-after c.put.new.seat c.seat.inside.seat _ _ _ _ _ _ _ c.seat.view_is
    (c.put.ensures.same_turn ∙ c.take-table.ensures.same_turn)
    (stays-known c.put.new.seat c.seat.inside.seat _ _ _ s same c.put.ensures.knows) refl
    (ap (λ v. v.amount) c.seat.view_is)

pub returns-clause-complete : goal.returns-clause-complete
returns-clause-complete g c =
    let s = c.seat.invariant in
    let t = c.take-table.result in
    let seat = c.args.seat.now in
    let eq = g.E.Goal.PartialEq.eq in
    let IsAnswer = g.E.Expand.answers in
    IfOk-weaker c.read-answer.result (λ r. IfSome r (λ f. IsComplete eq IsAnswer t.tag f))
    (λ r. IfSome r (IsCompleteFor eq IsAnswer seat))
    (λ r h. IfSome_then r {P = λ f. IsComplete eq IsAnswer t.tag f} {Q = IsCompleteFor eq IsAnswer seat} h
    (λ f k tag has. subst (λ (x : Tag g.row.E-Tag.Denot g.row.E-Goal.Denot). IsComplete eq IsAnswer x f)
    (c.take-table.ensures.before s.tag s.knows ∙ tag-known _ _ _ _ _ s c.seat.view_is tag has) k))
    c.read-answer.ensures.complete
