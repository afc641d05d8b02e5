use Rattle.std.proofs.Common.{◌≡◌, refl, subst, List, ℕ}
use Rattle.std.specs.Prelude.{Some, IfOk, OnOk, string_bytes}
use Rattle.std.specs.Option.{option_map}
use Rattle.std.proofs.lemmas.Result.{IfOk-weaker}
use Rattle.cls_query.specs.ReadQueries.{asked_of}
use Rattle.cls_query.specs.ReadQueries as queries
use Rattle.cls_replies.specs.Answering.{Answers, Answered}
use Rattle.cls_replies.specs.Answering as answering
use Rattle.cls_replies.specs.Printing.{left_of}
use Rattle.cls_replies.specs.Responder.{Responder, responder_of}
use Rattle.cls_replies.specs.Steps.{held_lines}
use Rattle.cls_replies.specs.Texts.{error_line}
use Rattle.cls_replies.proofs.Asking.{misreads}
use Rattle.cls_replies.proofs.Portions.{printing_as}
use Rattle.cls_replies.proofs.responder.Responder.ask.Goals as goal

pub returns-in-Ok-clause-answered : goal.returns-in-Ok-clause-answered
returns-in-Ok-clause-answered g c =
    let i = c.self.inside in
    let s = responder_of i.names i.variables i.components i.kinds i.templates i.filter_names i.filters i.engine (held_lines i.held) in
    let m = responder_of c.read_query.new.constructors c.read_query.new.variables i.components i.kinds i.templates i.filter_names i.filters i.engine (held_lines i.held) in
    let n = c.answer.new.self in
    let q = asked_of c.in-Ok.query in
    subst (λ (z : Responder). IfOk c.answer.result (λ p. Answered z c.args.line.now (left_of n p) n)) c.self.view_is
    (IfOk-weaker c.answer.result (λ p. Answers m q (left_of n p) n) (λ p. Answered s c.args.line.now (left_of n p) n)
    (λ p a. answering.Answered.asked q m (c.in-Ok.ensures.query, refl) a) c.answer.ensures.answers)

pub returns-in-Ok-clause-same_held : goal.returns-in-Ok-clause-same_held
returns-in-Ok-clause-same_held g c =
    subst (λ (z : Responder). OnOk c.answer.result (c.answer.new.self.held ≡ z.held)) c.self.view_is c.answer.ensures.same_held

pub returns-in-Err-clause-answered : goal.returns-in-Err-clause-answered
returns-in-Err-clause-answered g c =
    let i = c.self.inside in
    let s = responder_of i.names i.variables i.components i.kinds i.templates i.filter_names i.filters i.engine (held_lines i.held) in
    let m = responder_of c.read_query.new.constructors c.read_query.new.variables i.components i.kinds i.templates i.filter_names i.filters i.engine (held_lines i.held) in
    subst (λ (z : Responder). IfOk c.text_printing.result (λ p. Answered z c.args.line.now (left_of m p) m)) c.self.view_is
    (printing_as c.line_fault.result c.text_printing.result m (λ (t : List ℕ). Answered s c.args.line.now t m) c.text_printing.ensures.text
    (IfOk-weaker c.line_fault.result (λ text. option_map error_line (queries.fault_words c.in-Err.fault) ≡ Some (string_bytes text)) (λ text. Answered s c.args.line.now (string_bytes text) m)
    (λ text e. answering.Answered.misread (misreads s m c.args.line.now (string_bytes text) (queries.fault_words c.in-Err.fault) c.in-Err.ensures.fault e
    (λ k. responder_of (c.in-Err.ensures.stay k) (c.in-Err.ensures.variables_stay k) i.components i.kinds i.templates i.filter_names i.filters i.engine (held_lines i.held)))) c.line_fault.ensures))

pub returns-in-Err-clause-printable : goal.returns-in-Err-clause-printable
returns-in-Err-clause-printable g c =
    let i = c.self.inside in
    c.text_printing.ensures.printable (responder_of c.read_query.new.constructors c.read_query.new.variables i.components i.kinds i.templates i.filter_names i.filters i.engine (held_lines i.held))
