use Rattle.std.proofs.Common.{sym, rules}
use Rattle.cls_lexer.proofs.TextTables.{IsFound, found, absent}
use Rattle.cls_lexer.proofs.names.Names.find.Goals as goal

-- what the keys answered, in the words of the table
answer : (c : goal.In_ok-place) → IsFound c.args.self.now c.args.text.now c.in_ok-place.place
answer c = found c.args.self.now c.args.text.now c.in_ok-place.place (sym (c.in_ok-place.ensures.place c.args.text.now c.key_of.ensures))

pub returns-in_err-place-clause-absent : goal.returns-in_err-place-clause-absent
returns-in_err-place-clause-absent c =
    (λ _. absent c.args.self.now c.args.text.now (sym (c.in_err-place.ensures.place c.args.text.now c.key_of.ensures)), λ _. search rules)

pub returns-clause-absent : goal.returns-clause-absent
returns-clause-absent c = (λ no _. cc, λ not_held. absurd (not_held (answer c).held))

pub returns-clause-number : goal.returns-clause-number
returns-clause-number c = (answer c).number

pub returns-clause-stands : goal.returns-clause-stands
returns-clause-stands c = (answer c).stands
