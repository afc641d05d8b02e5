use Rattle.std.proofs.Common.{◌∙◌, arith}
use Rattle.cls_machine_tests.proofs.Again.{caller-again, number-within}
use Rattle.cls_machine_tests.proofs.callers_tests.ask_together.Goals as goal

pub ask_each-each-requires-clause-numbers : goal.ask_each-each-requires-clause-numbers
ask_each-each-requires-clause-numbers g c κs within =
    number-within _ _ _ c.in-Ok-start.ensures.tag (omega arith)

pub new-late-requires-clause-seat_of_table : goal.new-late-requires-clause-seat_of_table
new-late-requires-clause-seat_of_table g c = c.ask_each-each.ensures.turn ∙ c.in-Ok-start.ensures.seat_of_this

pub new-late-requires-clause-caller : goal.new-late-requires-clause-caller
new-late-requires-clause-caller g c =
    caller-again _ _ _ c.in-Ok-start.ensures.caller c.ask_each-each.ensures.tag

pub new-late-requires-clause-number : goal.new-late-requires-clause-number
new-late-requires-clause-number g c =
    number-within _ _ _ (c.ask_each-each.ensures.tag ∙ c.in-Ok-start.ensures.tag) (omega arith)
