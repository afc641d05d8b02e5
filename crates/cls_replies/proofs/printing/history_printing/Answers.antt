use Rattle.std.proofs.Common.{arith}
use Rattle.cls_replies.proofs.printing.history_printing.Goals as goal

pub returns-clause-printable : goal.returns-clause-printable
returns-clause-printable c = λ s. c.of_lines.ensures.printable s (omega arith)
