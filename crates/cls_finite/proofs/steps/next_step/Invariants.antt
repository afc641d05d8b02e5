use Rattle.cls_finite.specs.Descents.{IsPassed}
use Rattle.cls_finite.proofs.steps.next_step.Given as goal

abbrev pub invariant-loop-rule : goal.invariant-loop-rule
invariant-loop-rule l = IsPassed l.marks l.flags l.rules l.rule l.from
