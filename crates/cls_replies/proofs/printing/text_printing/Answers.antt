use Rattle.cls_replies.proofs.printing.text_printing.Goals as goal

pub returns-in-Ok-clause-text : goal.returns-in-Ok-clause-text
returns-in-Ok-clause-text c = rw c.in-Ok.is c.of_text.ensures.text

pub returns-in-Err-clause-text : goal.returns-in-Err-clause-text
returns-in-Err-clause-text c = rw c.in-Err.is tt
