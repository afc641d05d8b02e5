use Rattle.std.proofs.Common.{◌++◌, ◌∷◌, [], List, ℕ, Contains, sym, ap, ◌∙◌}
use Rattle.std.specs.Prelude.{slice_get}
use Rattle.cls_lexer.proofs.KeyedTexts.{with_text-new, stands_last}
use Rattle.cls_lexer.proofs.TextTables.{IsFound, found, absent, number_absent}
use Rattle.cls_lexer.proofs.names.Names.intern.Goals as goal
use Rattle.cls_lexer.proofs.names.Names.intern.Goals.{In_default}

answer : (c : goal.In-Some) → IsFound c.args.self.now c.args.text.now c.in-Some.place
answer c = found c.args.self.now c.args.text.now c.in-Some.place (sym (c.in-Some.ensures.place c.args.text.now c.key_of-key.ensures))

pub returns-in-Some-clause-table : goal.returns-in-Some-clause-table
returns-in-Some-clause-table c = sym (answer c).stays

pub returns-in-Some-clause-stands : goal.returns-in-Some-clause-stands
returns-in-Some-clause-stands c = (answer c).stands

-- the text is new
not_held : (c : In_default) → Contains c.args.self.now c.args.text.now → ⊥
not_held c = absent c.args.self.now c.args.text.now (sym (c.in_default.ensures.place c.args.text.now c.key_of-key.ensures))

pub add-requires-clause-absent : goal.add-requires-clause-absent
add-requires-clause-absent c = not_held (goal.at.add-requires-clause-absent c).In_default

pub returns-clause-number : goal.returns-clause-number
returns-clause-number c = c.in_ok-add.ensures.number ∙ number_absent c.args.self.now c.args.text.now (not_held (goal.at.returns-clause-number c).In_default)

pub returns-clause-table : goal.returns-clause-table
returns-clause-table c = c.in_ok-add.ensures.table ∙ with_text-new c.args.self.now c.args.text.now (not_held (goal.at.returns-clause-table c).In_default)

pub returns-clause-stands : goal.returns-clause-stands
returns-clause-stands c =
    ap (λ (texts : List (List ℕ)). slice_get texts c.in_ok-add.field-0.0) c.in_ok-add.ensures.table
    ∙ (ap (slice_get (c.args.self.now ++ c.args.text.now ∷ [])) c.in_ok-add.ensures.number ∙ stands_last c.args.self.now c.args.text.now)
