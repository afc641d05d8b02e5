use Rattle.std.proofs.Common.{arith}
use Rattle.cls_table.proofs.Seating.{is-seated}
use Rattle.cls_table.proofs.shared.SharedTable.join.Goals as goal

pub invariant_of-seat : goal.invariant_of-seat
invariant_of-seat g c =
    let s = c.seat.invariant in
    is-seated _ c.seat.inside.seat _ _ _ _ s c.join.ensures.same (omega (arith, s.some_part, c.merge.ensures.parts))
    s.worker_named
