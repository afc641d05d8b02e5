use Rattle.std.proofs.Common.{List, ℕ}
use Rattle.cls_replies.specs.Steps.{IsFaultLine}
use Rattle.cls_replies.proofs.Portions.{printing_as}
use Rattle.cls_replies.proofs.printing.fault_printing.Goals as goal

pub returns-clause-text : goal.returns-clause-text
returns-clause-text c = λ s. printing_as c.engine_fault.result c.text_printing.result s (λ (t : List ℕ). IsFaultLine c.args.names.now c.args.fault t) c.text_printing.ensures.text c.engine_fault.ensures
