use Rattle.std.proofs.Common.{arith, ap}
use Rattle.cls_table.proofs.Seating.{is-seated, tag-seen}
use Rattle.cls_table.proofs.shared.SharedTable.split.Goals as goal

pub invariant_of-seat : goal.invariant_of-seat
invariant_of-seat g c =
    let s = c.seat.invariant in
    is-seated _ c.seat.inside.seat _ _ _ _ s c.split.ensures.same
    (omega (arith, ap (λ v. v.parts) c.seat.view_is, c.requires.parts, c.split_off-share.ensures.parts_left))
    s.worker_named

pub invariant_of-result : goal.invariant_of-result
invariant_of-result g c =
    let s = c.seat.invariant in
    is-seated _ c.seat.inside.seat _ _ _ _ s c.split.ensures.new
    (omega (arith, c.split_off-share.ensures.parts))
    (c.requires.worker s.tag (tag-seen _ _ _ _ _ s c.seat.view_is))
