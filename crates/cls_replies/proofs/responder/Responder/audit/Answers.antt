use Rattle.std.proofs.Common.{refl, subst}
use Rattle.std.specs.Prelude.{IfOk}
use Rattle.cls_base.specs.Ty.{type_of}
use Rattle.cls_query.specs.Queries.{audit}
use Rattle.cls_replies.specs.Answering.{Answers}
use Rattle.cls_replies.specs.Answering as answering
use Rattle.cls_replies.specs.Printing.{left_of}
use Rattle.cls_replies.specs.Responder.{Responder, responder_of}
use Rattle.cls_replies.specs.Steps.{held_lines}
use Rattle.cls_replies.proofs.Faulting.{fault_answers}
use Rattle.cls_replies.proofs.responder.Responder.audit.Goals as goal
use Rattle.cls_replies.proofs.responder.Responder.audit.Goals.{in-Ok, in-Err}

pub returns-clause-answers : goal.returns-clause-answers
returns-clause-answers g c =
    let i = c.self.inside in
    let s = responder_of i.names i.variables i.components i.kinds i.templates i.filter_names i.filters i.engine (held_lines i.held) in
    let q = audit (type_of c.args.ty.now) in
    elim c.match-audit.branch [
      | in-Ok w ↦
          let told : Answers s q (left_of s w.history_printing.result) s = answering.Answers.replied w.in-Ok.ensures.silent (w.in-Ok.history, w.in-Ok.ensures.history, w.history_printing.ensures.text s) refl in
          rw w.result-is (subst (λ (z : Responder). Answers z q (left_of z w.history_printing.result) z) c.self.view_is told)
      | in-Err w ↦
          rw w.result-is (subst (λ (z : Responder). IfOk w.fault_printing.result (λ p. Answers z q (left_of z p) z)) c.self.view_is
          (fault_answers (left_of s) w.fault_printing.result s q w.in-Err.fault w.in-Err.ensures.fault (w.fault_printing.ensures.text s)))
    ]

pub returns-clause-printable : goal.returns-clause-printable
returns-clause-printable g c =
    elim c.match-audit.branch [
      | in-Ok w ↦
          rw w.result-is (w.history_printing.ensures.printable c.args.self.now)
      | in-Err w ↦
          rw w.result-is (w.fault_printing.ensures.printable c.args.self.now)
    ]
