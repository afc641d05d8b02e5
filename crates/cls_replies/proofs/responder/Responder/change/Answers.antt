use Rattle.std.proofs.Common.{◌≡◌, ℕ, List, refl, subst}
use Rattle.std.specs.Prelude.{Some, IfOk, OnOk, string_bytes}
use Rattle.std.specs.Option.{option_map}
use Rattle.std.proofs.lemmas.Result.{IfOk-weaker}
use Rattle.cls_query.specs.ReadChanges.{change_in}
use Rattle.cls_query.specs.ReadQueries as queries
use Rattle.cls_replies.specs.Changing.{Changed, Makes}
use Rattle.cls_replies.specs.Changing as changing
use Rattle.cls_replies.specs.Printing.{left_of}
use Rattle.cls_replies.specs.Responder.{Responder, responder_of}
use Rattle.cls_replies.specs.Steps.{held_lines}
use Rattle.cls_replies.specs.Texts.{error_line}
use Rattle.cls_replies.proofs.Changing.{misreads}
use Rattle.cls_replies.proofs.Portions.{printing_as, printing_ok}
use Rattle.cls_replies.proofs.responder.Responder.change.Goals as goal

pub returns-in-Ok-clause-changed : goal.returns-in-Ok-clause-changed
returns-in-Ok-clause-changed c =
    let i = c.self.inside in
    let s = responder_of i.names i.variables i.components i.kinds i.templates i.filter_names i.filters i.engine (held_lines i.held) in
    let m = responder_of c.read_change.new.constructors c.read_change.new.variables i.components i.kinds i.templates i.filter_names i.filters i.engine (held_lines i.held) in
    let n = c.make.new.self in
    let change = change_in c.in-Ok.change in
    subst (λ (z : Responder). IfOk c.text_printing.result (λ p. Changed z c.args.line.now (left_of n p) n)) c.self.view_is
    (printing_as c.make.result c.text_printing.result n (λ (t : List ℕ). Changed s c.args.line.now t n) c.text_printing.ensures.text
    (IfOk-weaker c.make.result (λ text. Makes m change (string_bytes text) n) (λ text. Changed s c.args.line.now (string_bytes text) n)
    (λ text k. changing.Changed.makes change m (c.in-Ok.ensures.change i.filter_names, refl) k) c.make.ensures.makes))

pub returns-in-Ok-clause-printable : goal.returns-in-Ok-clause-printable
returns-in-Ok-clause-printable c = c.text_printing.ensures.printable c.make.new.self

pub returns-in-Ok-clause-same_held : goal.returns-in-Ok-clause-same_held
returns-in-Ok-clause-same_held c =
    printing_ok c.make.result c.text_printing.result _ c.text_printing.ensures.text
    (subst (λ (z : Responder). OnOk c.make.result (c.make.new.self.held ≡ z.held)) c.self.view_is c.make.ensures.same_held)

pub returns-in-Err-clause-changed : goal.returns-in-Err-clause-changed
returns-in-Err-clause-changed c =
    let i = c.self.inside in
    let s = responder_of i.names i.variables i.components i.kinds i.templates i.filter_names i.filters i.engine (held_lines i.held) in
    let m = responder_of c.read_change.new.constructors c.read_change.new.variables i.components i.kinds i.templates i.filter_names i.filters i.engine (held_lines i.held) in
    subst (λ (z : Responder). IfOk c.text_printing-in-Err.result (λ p. Changed z c.args.line.now (left_of m p) m)) c.self.view_is
    (printing_as c.line_fault.result c.text_printing-in-Err.result m (λ (t : List ℕ). Changed s c.args.line.now t m) c.text_printing-in-Err.ensures.text
    (IfOk-weaker c.line_fault.result (λ text. option_map error_line (queries.fault_words c.in-Err.fault) ≡ Some (string_bytes text)) (λ text. Changed s c.args.line.now (string_bytes text) m)
    (λ text e. changing.Changed.misread (misreads s m c.args.line.now (string_bytes text) (queries.fault_words c.in-Err.fault) c.in-Err.ensures.fault e
    (λ k. responder_of (c.in-Err.ensures.stay k) (c.in-Err.ensures.variables_stay k) i.components i.kinds i.templates i.filter_names i.filters i.engine (held_lines i.held)))) c.line_fault.ensures))

pub returns-in-Err-clause-printable : goal.returns-in-Err-clause-printable
returns-in-Err-clause-printable c =
    let i = c.self.inside in
    c.text_printing-in-Err.ensures.printable (responder_of c.read_change.new.constructors c.read_change.new.variables i.components i.kinds i.templates i.filter_names i.filters i.engine (held_lines i.held))
