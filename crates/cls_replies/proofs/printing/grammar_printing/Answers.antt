use Rattle.cls_replies.proofs.printing.grammar_printing.Goals as goal

pub returns-clause-text : goal.returns-clause-text
returns-clause-text c = λ s. (c.in_ok-ranks.ranks, c.in_ok-ranks.ensures, c.of_lines.ensures.text s)

pub returns-clause-printable : goal.returns-clause-printable
returns-clause-printable c = λ s of_goal. c.of_lines.ensures.printable s (c.in_ok-ranks.ensures, tt, of_goal)
