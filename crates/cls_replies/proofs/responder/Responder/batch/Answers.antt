use Rattle.std.proofs.Common.{◌≡◌, map, subst}
use Rattle.std.specs.Prelude.{IfOk, string_bytes}
use Rattle.std.proofs.lemmas.Result.{IfOk-weaker}
use Rattle.cls_base.specs.Ty.{type_of}
use Rattle.cls_query.specs.Queries.{batch}
use Rattle.cls_replies.specs.Answering.{Answers}
use Rattle.cls_replies.specs.Replies.{Reply}
use Rattle.cls_replies.specs.Responder.{Responder, responder_of}
use Rattle.cls_replies.specs.Steps.{held_lines}
use Rattle.cls_replies.specs.Texts.{batch_text}
use Rattle.cls_replies.proofs.Faulting.{fault_answers, reply_answers}
use Rattle.cls_replies.proofs.responder.Responder.batch.Goals as goal

pub returns-in-Ok-clause-answers : goal.returns-in-Ok-clause-answers
returns-in-Ok-clause-answers g c =
    let i = c.self.inside in
    let s = responder_of i.names i.variables i.components i.kinds i.templates i.filter_names i.filters i.engine (held_lines i.held) in
    let q = batch (map type_of c.args.types.now) in
    subst (λ (z : Responder). IfOk c.batch_lines.result (λ text. Answers z q (string_bytes text) z)) c.self.view_is
    (reply_answers string_bytes c.batch_lines.result s q c.in-Ok.ensures.silent
    (IfOk-weaker c.batch_lines.result (λ text. string_bytes text ≡ batch_text c.in-Ok.says.items) (λ text. Reply s q (string_bytes text)) (λ text e. (c.in-Ok.says.items, c.in-Ok.ensures.exact, e)) c.batch_lines.ensures))

pub returns-in-Err-clause-answers : goal.returns-in-Err-clause-answers
returns-in-Err-clause-answers g c =
    let i = c.self.inside in
    let q = batch (map type_of c.args.types.now) in
    subst (λ (z : Responder). IfOk c.engine_fault.result (λ text. Answers z q (string_bytes text) z)) c.self.view_is
    (fault_answers string_bytes c.engine_fault.result (responder_of i.names i.variables i.components i.kinds i.templates i.filter_names i.filters i.engine (held_lines i.held)) q c.in-Err.fault c.in-Err.ensures.fault c.engine_fault.ensures)
