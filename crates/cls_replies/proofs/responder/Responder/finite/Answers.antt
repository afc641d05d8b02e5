use Rattle.std.proofs.Common.{◌≡◌, subst}
use Rattle.std.specs.Prelude.{IfOk}
use Rattle.std.proofs.lemmas.Result.{IfOk-weaker}
use Rattle.cls_base.specs.Ty.{type_of}
use Rattle.cls_query.specs.Queries.{finite}
use Rattle.cls_replies.specs.Answering.{Answers}
use Rattle.cls_replies.specs.Printing.{left_of}
use Rattle.cls_replies.specs.Replies.{Reply}
use Rattle.cls_replies.specs.Responder.{Responder, responder_of}
use Rattle.cls_replies.specs.Steps.{held_lines}
use Rattle.cls_replies.specs.Texts.{sizes_text}
use Rattle.cls_replies.proofs.Telling.{tells_sizes}
use Rattle.cls_term.specs.Costs.{cost_of}
use Rattle.cls_replies.proofs.Faulting.{fault_answers, reply_answers}
use Rattle.cls_replies.proofs.responder.Responder.finite.Goals as goal
use Rattle.cls_replies.proofs.responder.Responder.finite.Goals.{in-Ok, in-Err}

pub returns-clause-answers : goal.returns-clause-answers
returns-clause-answers g c =
    let i = c.self.inside in
    let s = responder_of i.names i.variables i.components i.kinds i.templates i.filter_names i.filters i.engine (held_lines i.held) in
    let q = finite (type_of c.args.ty.now) in
    elim c.match-finite.branch [
      | in-Ok w ↦
          rw w.result-is (subst (λ (z : Responder). IfOk w.sizes_printing.result (λ p. Answers z q (left_of z p) z)) c.self.view_is
          (reply_answers (left_of s) w.sizes_printing.result s q w.in-Ok.ensures.silent
          (IfOk-weaker w.sizes_printing.result (λ p. left_of s p ≡ sizes_text w.in-Ok.sizes) (λ p. Reply s q (left_of s p)) (λ p e. let t : Reply s q (left_of s p) = (w.in-Ok.sizes, tells_sizes i.engine.library (cost_of i.engine.costs) (type_of c.args.ty.now) w.in-Ok.sizes w.in-Ok.ensures.greatest w.in-Ok.ensures.over w.in-Ok.ensures.infinite w.in-Ok.ensures.walk, e) in t) (w.sizes_printing.ensures.text s))))
      | in-Err w ↦
          rw w.result-is (subst (λ (z : Responder). IfOk w.fault_printing.result (λ p. Answers z q (left_of z p) z)) c.self.view_is
          (fault_answers (left_of s) w.fault_printing.result s q w.in-Err.fault w.in-Err.ensures.fault (w.fault_printing.ensures.text s)))
    ]

pub returns-clause-printable : goal.returns-clause-printable
returns-clause-printable g c =
    elim c.match-finite.branch [
      | in-Ok w ↦
          rw w.result-is (w.sizes_printing.ensures.printable c.args.self.now)
      | in-Err w ↦
          rw w.result-is (w.fault_printing.ensures.printable c.args.self.now)
    ]
