use Rattle.cls_replies.proofs.responder.Responder.write_lines.Goals as goal

pub write_terms-requires : goal.write_terms-requires
write_terms-requires c = rw c.in-Terms.is at c.requires

pub returns-in-Terms-clause-rest : goal.returns-in-Terms-clause-rest
returns-in-Terms-clause-rest c = rw c.in-Terms.is c.write_terms.ensures

pub write_texts-requires-clause-place : goal.write_texts-requires-clause-place
write_texts-requires-clause-place c = let printable = rw c.in-Texts.is at c.requires in printable.0

pub write_texts-requires-clause-named : goal.write_texts-requires-clause-named
write_texts-requires-clause-named c = let printable = rw c.in-Texts.is at c.requires in printable.1

pub returns-in-Texts-clause-rest : goal.returns-in-Texts-clause-rest
returns-in-Texts-clause-rest c = rw c.in-Texts.is c.write_texts.ensures

pub write_grammar-requires-clause-ranked : goal.write_grammar-requires-clause-ranked
write_grammar-requires-clause-ranked c = let printable = rw c.in-Grammar.is at c.requires in printable.0

pub write_grammar-requires-clause-place : goal.write_grammar-requires-clause-place
write_grammar-requires-clause-place c = let printable = rw c.in-Grammar.is at c.requires in printable.1

pub write_grammar-requires-clause-of_goal : goal.write_grammar-requires-clause-of_goal
write_grammar-requires-clause-of_goal c = let printable = rw c.in-Grammar.is at c.requires in printable.2

pub returns-in-Grammar-clause-rest : goal.returns-in-Grammar-clause-rest
returns-in-Grammar-clause-rest c = rw c.in-Grammar.is c.write_grammar.ensures.rest

pub write_paths-requires : goal.write_paths-requires
write_paths-requires c = rw c.in-Paths.is at c.requires

pub returns-in-Paths-clause-rest : goal.returns-in-Paths-clause-rest
returns-in-Paths-clause-rest c = rw c.in-Paths.is c.write_paths.ensures

pub write_rows-requires-clause-left : goal.write_rows-requires-clause-left
write_rows-requires-clause-left c = let printable = rw c.in-Rows.is at c.requires in printable.0

pub write_rows-requires-clause-of_goal : goal.write_rows-requires-clause-of_goal
write_rows-requires-clause-of_goal c = let printable = rw c.in-Rows.is at c.requires in printable.1

pub returns-in-Rows-clause-rest : goal.returns-in-Rows-clause-rest
returns-in-Rows-clause-rest c = rw c.in-Rows.is c.write_rows.ensures.rest

pub write_members-requires-clause-left : goal.write_members-requires-clause-left
write_members-requires-clause-left c = let printable = rw c.in-Members.is at c.requires in printable.0

pub write_members-requires-clause-of_goal : goal.write_members-requires-clause-of_goal
write_members-requires-clause-of_goal c = let printable = rw c.in-Members.is at c.requires in printable.1

pub returns-in-Members-clause-rest : goal.returns-in-Members-clause-rest
returns-in-Members-clause-rest c = rw c.in-Members.is c.write_members.ensures.rest

pub write_events-requires : goal.write_events-requires
write_events-requires c = rw c.in-Events.is at c.requires

pub returns-in-Events-clause-rest : goal.returns-in-Events-clause-rest
returns-in-Events-clause-rest c = rw c.in-Events.is (c.write_events.ensures c.args.self.now)

pub write_steps-requires : goal.write_steps-requires
write_steps-requires c = rw c.in-Steps.is at c.requires

pub returns-in-Steps-clause-rest : goal.returns-in-Steps-clause-rest
returns-in-Steps-clause-rest c = rw c.in-Steps.is (c.write_steps.ensures c.args.self.now)
