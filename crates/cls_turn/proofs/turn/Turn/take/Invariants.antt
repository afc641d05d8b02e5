use Rattle.std.proofs.Common.{◌≡◌}
use Rattle.cls_turn.proofs.turn.Turn.take.Given as goal

abbrev pub invariant-loop : goal.invariant-loop
invariant-loop g l =
    (goal.iterator-loop g).can_next l.iterator' × (goal.iterator-loop g).is_finite l.iterator'
    × (l.seat.seat.table_id ≡ l.initial.seat.seat.table_id) × (l.seat.seat.me.0 ≡ l.initial.seat.seat.me.0)
    × (l.seat.seat.me.1 ≡ l.initial.seat.seat.me.1)
