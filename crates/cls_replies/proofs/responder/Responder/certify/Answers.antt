use Rattle.std.proofs.Common.{◌≡◌, ap, sym, ◌∙◌, subst}
use Rattle.std.specs.Prelude.{IfOk}
use Rattle.std.proofs.lemmas.Result.{IfOk-weaker}
use Rattle.cls_base.specs.Ty.{type_of}
use Rattle.cls_cert.specs.Conditions.{IsGrammarOf}
use Rattle.cls_engine.specs.Engines.{EngineSeen}
use Rattle.cls_engine.proofs.Certifying.{grammar}
use Rattle.cls_library.specs.Libraries.{IsLibrary, Library}
use Rattle.cls_query.specs.Queries.{certify}
use Rattle.cls_replies.specs.Answering.{Answers}
use Rattle.cls_replies.specs.Printing.{IsPrintable, left_of}
use Rattle.cls_replies.specs.Replies.{Reply}
use Rattle.cls_replies.specs.Rests.{IsCertificateText}
use Rattle.cls_replies.specs.Responder.{Responder, responder_of}
use Rattle.cls_replies.specs.Steps.{held_lines}
use Rattle.cls_replies.proofs.Faulting.{fault_answers, reply_answers}
use Rattle.cls_replies.proofs.responder.Responder.certify.Goals as goal
use Rattle.cls_replies.proofs.responder.Responder.certify.Goals.{in-Ok, in-Err}

pub certificate_printing-requires : goal.certificate_printing-requires
certificate_printing-requires g c =
    let e = c.self.inside.engine in
    let lib : c.library-lib.result.now ≡ e.library = c.library-lib.ensures ∙ ap (λ (e : EngineSeen). e.library) c.grammar.ensures.same in
    subst (λ (l : Library). IsGrammarOf l c.in-Ok.grammar) (sym lib)
    (grammar e.library (subst IsLibrary lib c.count-count.ensures.library) e.options (type_of c.args.ty.now) c.in-Ok.ensures.silent c.in-Ok.grammar c.in-Ok.ensures.closed)

pub returns-clause-answers : goal.returns-clause-answers
returns-clause-answers g c =
    let i = c.self.inside in
    let s = responder_of i.names i.variables i.components i.kinds i.templates i.filter_names i.filters i.engine (held_lines i.held) in
    let q = certify (type_of c.args.ty.now) in
    elim c.match-grammar.branch [
      | in-Ok w ↦
          let lib : w.library-lib.result.now ≡ i.engine.library = w.library-lib.ensures ∙ ap (λ (e : EngineSeen). e.library) c.grammar.ensures.same in
          let text = subst (λ (l : Library). IfOk w.certificate_printing.result (λ p. IsCertificateText l w.in-Ok.grammar i.names i.components (left_of s p))) lib (w.certificate_printing.ensures.text s (sym lib)) in
          rw w.result-is (subst (λ (z : Responder). IfOk w.certificate_printing.result (λ p. Answers z q (left_of z p) z)) c.self.view_is
          (reply_answers (left_of s) w.certificate_printing.result s q w.in-Ok.ensures.silent
          (IfOk-weaker w.certificate_printing.result (λ p. IsCertificateText i.engine.library w.in-Ok.grammar i.names i.components (left_of s p)) (λ p. Reply s q (left_of s p))
          (λ p r. let t : Reply s q (left_of s p) = (r.0, (w.in-Ok.grammar, w.in-Ok.ensures.closed, r.1), r.2) in t) text)))
      | in-Err w ↦
          rw w.result-is (subst (λ (z : Responder). IfOk w.fault_printing.result (λ p. Answers z q (left_of z p) z)) c.self.view_is
          (fault_answers (left_of s) w.fault_printing.result s q w.in-Err.fault w.in-Err.ensures.fault (w.fault_printing.ensures.text s)))
    ]

pub returns-clause-printable : goal.returns-clause-printable
returns-clause-printable g c =
    elim c.match-grammar.branch [
      | in-Ok w ↦
          let i = c.self.inside in
          let s = responder_of i.names i.variables i.components i.kinds i.templates i.filter_names i.filters i.engine (held_lines i.held) in
          let lib : w.library-lib.result.now ≡ i.engine.library = w.library-lib.ensures ∙ ap (λ (e : EngineSeen). e.library) c.grammar.ensures.same in
          rw w.result-is (subst (λ (z : Responder). IfOk w.certificate_printing.result (IsPrintable z)) c.self.view_is
          (w.certificate_printing.ensures.printable s (sym lib) (type_of c.args.ty.now, w.in-Ok.ensures.closed, w.in-Ok.ensures.silent)))
      | in-Err w ↦
          rw w.result-is (w.fault_printing.ensures.printable c.args.self.now)
    ]
