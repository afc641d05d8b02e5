use Rattle.std.proofs.Common.{◌∙◌, ap}
use Rattle.cls_machine_tests.proofs.Again.{caller-again}
use Rattle.cls_machine_tests.proofs.callers_tests.Caller.new.Goals as goal

pub invariant_of-result : goal.invariant_of-result
invariant_of-result g c =
    let own = c.split-own.ensures.new in (
      ap (λ s. s.turn) own ∙ c.requires.seat_of_table,
      caller-again c.args.asked.now c.args.seat.now c.split-own.result c.requires.caller (ap (λ s. s.tag) own),
    )
