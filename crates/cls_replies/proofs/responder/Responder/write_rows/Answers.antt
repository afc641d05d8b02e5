use Rattle.std.proofs.Common.{◌∙◌, append-nil, refl, sym, subst, string_bytes}
use Rattle.std.specs.Prelude.{Bool}
use Rattle.cls_cert.specs.Conditions.{forms_of}
use Rattle.cls_cert.specs.Left.{IsWrittenOn, rows_left}
use Rattle.cls_replies.specs.declared.printing.Left.TheVariants as left
use Rattle.cls_replies.specs.declared.printing.Lines.TheVariants as lines
use Rattle.cls_replies.specs.Printing.{IsOfGoal}
use Rattle.cls_replies.specs.Rests.{IsRest}
use Rattle.cls_replies.specs.Responder.{Responder, responder_of}
use Rattle.cls_replies.specs.Steps.{held_lines}
use Rattle.cls_replies.proofs.Portions.{some_text}
use Rattle.cls_replies.proofs.responder.Responder.write_rows.Goals as goal

pub returns-then-more-clause-rest : goal.returns-then-more-clause-rest
returns-then-more-clause-rest c =
    let i = c.self.inside in
    let s = responder_of i.names i.variables i.components i.kinds i.templates i.filter_names i.filters i.engine (held_lines i.held) in
    let old = string_bytes c.args.text.now in
    let new = string_bytes c.write_lines.new.text in
    let goals = forms_of c.args.grammar in
    let rows = c.write_lines.new.self in
    let on = subst (λ (more : Bool). IsWrittenOn 32768 (rows_left i.names i.components goals c.args.rows) (rows_left i.names i.components goals rows) old new more) c.if-more.true c.in_ok-more.ensures.lines in
    let of_goal : IsOfGoal s c.args.grammar = subst (λ (z : Responder). IsOfGoal z c.args.grammar) (sym c.self.view_is) c.requires.of_goal in
    subst (λ (z : Responder). IsRest z (rows_left z.names z.components goals c.args.rows) old new (left.Lines (lines.Rows c.args.grammar rows))) c.self.view_is
    (record { lines = on.0; full = some_text new _ on.1; printable = (c.in_ok-more.ensures.left, of_goal) })

pub take_back-requires : goal.take_back-requires
take_back-requires c = subst (λ (z : Responder). IsOfGoal z c.args.grammar) (sym c.self.view_is) c.requires.of_goal

pub returns-clause-rest : goal.returns-clause-rest
returns-clause-rest c =
    let i = c.self.inside in
    let old = string_bytes c.args.text.now in
    let new = string_bytes c.write_lines.new.text in
    let goals = forms_of c.args.grammar in
    let rows = c.write_lines.new.self in
    let on = subst (λ (more : Bool). IsWrittenOn 32768 (rows_left i.names i.components goals c.args.rows) (rows_left i.names i.components goals rows) old new more) c.if-more.false c.in_ok-more.ensures.lines in
    subst (λ (z : Responder). IsRest z (rows_left z.names z.components goals c.args.rows) old new left.Nothing) c.self.view_is
    (record { lines = append-nil new ∙ on; full = λ none. refl; printable = tt })
