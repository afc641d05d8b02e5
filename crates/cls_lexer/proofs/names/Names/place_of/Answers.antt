use Rattle.cls_lexer.proofs.names.Names.place_of.Goals as goal

pub returns-in-Short-clause-place : goal.returns-in-Short-clause-place
returns-in-Short-clause-place c text is = c.place_of_short.ensures.place text (rw c.in-Short.is at is)
