use Rattle.cls_filtered.proofs.StepBooks.{IsSteppedTo}
use Rattle.cls_filtered.proofs.step_book.StepBook.of_book.Given as goal

abbrev pub invariant-loop-node : goal.invariant-loop-node
invariant-loop-node g l = IsSteppedTo (g.B.RuleBook.book l.book) l.count l.node l.lasts.items l.ends.items l.parts.items
