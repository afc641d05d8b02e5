use denote.Param.Send.{sendable}
use Rattle.std.proofs.Common.{◌∙◌, sym, ap, arith}
use Rattle.std.proofs.Crossing.{crosses}
use Rattle.cls_table.proofs.Sent.{table_seat_send}
use Rattle.cls_callers.proofs.Sent.{ask_goal_send, asked_sync, callers_sync}
use Rattle.cls_machine_tests.proofs.Again.{caller-again}
use Rattle.cls_machine_tests.proofs.Sent.{heap_sync, node_send, node_sync}
use Rattle.cls_machine_tests.proofs.callers_tests.ask_each.Goals as goal

pub new-caller-requires-clause-caller : goal.new-caller-requires-clause-caller
new-caller-requires-clause-caller g c =
    caller-again c.args.asked.now c.args.seat.now c.loop-number.seat c.requires.caller c.loop-number.invariant.tag

pub new-caller-requires-clause-number : goal.new-caller-requires-clause-number
new-caller-requires-clause-number g c tag is =
    let last = c.requires.numbers tag (sym c.loop-number.invariant.tag ∙ is) in
    let test = c.loop-number-test.true in
    omega arith

pub loop-number-preserved : goal.loop-number-preserved
loop-number-preserved g c =
    let before = c.loop-number.invariant in
    let left = c.new-caller.ensures in
    let parts = ap (λ s. s.parts) left in
    let test = c.loop-number-test.true in
    let enough = c.requires.parts in
    record {
      turn = ap (λ s. s.turn) left ∙ before.turn;
      tag = ap (λ s. s.tag) left ∙ before.tag;
      parts = omega (arith, before.parts);
    }

pub for_each_mut-requires-send-T : goal.for_each_mut-requires-send-T
for_each_mut-requires-send-T g c κs within =
    search (sendable, crosses, table_seat_send, ask_goal_send, asked_sync, callers_sync, heap_sync, node_send, node_sync)
    depth 40 fits 40000
