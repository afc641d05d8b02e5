use Rattle.std.proofs.Common.{◌≡◌, take}
use Rattle.cls_expand.specs.Memos.{rules_together}
use Rattle.cls_expand.proofs.store.count_rules.Given as goal

abbrev pub invariant-loop-answer : goal.invariant-loop-answer
invariant-loop-answer l = l.count ≡ rules_together (take l.answer-index l.answers)
