use Rattle.std.proofs.Common.{◌≡◌, ◌+◌}
use Rattle.cls_machine_tests.proofs.callers_tests.ask_each.Given as goal

abbrev pub invariant-loop-number : goal.invariant-loop-number
invariant-loop-number g l = record {
  turn : l.seat.turn ≡ l.initial.seat.turn;
  tag : l.seat.tag ≡ l.initial.seat.tag;
  parts : l.seat.parts + l.number ≡ l.initial.seat.parts;
}
