use Rattle.std.proofs.Common.{◌∙◌, arith}
use Rattle.cls_machine_tests.proofs.Again.{caller-again}
use Rattle.cls_machine_tests.proofs.callers_tests.Caller.ask.Goals as goal

pub ask-answer-requires-clause-asked : goal.ask-answer-requires-clause-asked
ask-answer-requires-clause-asked g c = (omega arith, omega (arith, c.facts.ensures.some))

pub invariant_of-self : goal.invariant_of-self
invariant_of-self g c =
    let after = c.ask-answer.ensures.seat in (
      after.turn ∙ c.self.invariant.0,
      caller-again c.self.inside.asked.now c.self.inside.seat c.ask-answer.new.seat c.self.invariant.1 after.tag,
    )
