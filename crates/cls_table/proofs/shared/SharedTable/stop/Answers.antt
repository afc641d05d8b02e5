use Rattle.std.proofs.Common.{refl, ◌∙◌, ap}
use Rattle.cls_table.specs.Tags.{tag_of}
use Rattle.cls_table.proofs.Seating.{stays-seated, stays-known, seen-after}
use Rattle.cls_table.proofs.shared.SharedTable.stop.Goals as goal

pub put-requires-clause-taken : goal.put-requires-clause-taken
put-requires-clause-taken g c = (tag_of c.take-table.result, c.take-table.ensures.taken, ap (λ t. t.tag) c.stop.ensures)

pub invariant_of-seat : goal.invariant_of-seat
invariant_of-seat g c =
    let s = c.seat.invariant in
    stays-seated c.put.new.seat c.seat.inside.seat _ _ _ _ s
    (ap (λ t. t.tag) c.stop.ensures ∙ c.take-table.ensures.before s.tag s.knows) c.put.ensures.knows s.some_part

pub returns-clause-seat : goal.returns-clause-seat
returns-clause-seat g c =
    let s = c.seat.invariant in
    let same = ap (λ t. t.tag) c.stop.ensures ∙ c.take-table.ensures.before s.tag s.knows in
    seen-after c.put.new.seat c.seat.inside.seat _ _ _ _ _ _ _ c.seat.view_is
    (c.put.ensures.same_turn ∙ c.take-table.ensures.same_turn)
    (stays-known c.put.new.seat c.seat.inside.seat _ _ _ s same c.put.ensures.knows) refl
    (ap (λ v. v.amount) c.seat.view_is)
