use Rattle.std.proofs.Common.{◌≡◌, subst}
use Rattle.std.specs.Prelude.{codes, if◌then◌else◌, IfOk, string_bytes}
use Rattle.std.proofs.lemmas.Result.{IfOk-weaker}
use Rattle.cls_base.specs.Ty.{type_of}
use Rattle.cls_query.specs.Queries.{typed}
use Rattle.cls_replies.specs.Answering.{Answers}
use Rattle.cls_replies.specs.Replies.{Reply}
use Rattle.cls_replies.specs.Responder.{Responder, responder_of}
use Rattle.cls_replies.specs.Steps.{held_lines}
use Rattle.cls_replies.specs.Texts.{reply_line}
use Rattle.cls_replies.proofs.Faulting.{fault_answers, reply_answers, says_which}
use Rattle.cls_replies.proofs.responder.Responder.typed.Goals as goal

pub returns-in-Ok-clause-answers : goal.returns-in-Ok-clause-answers
returns-in-Ok-clause-answers c =
    let i = c.self.inside in
    let s = responder_of i.names i.variables i.components i.kinds i.templates i.filter_names i.filters i.engine (held_lines i.held) in
    let q = typed c.args.term.now (type_of c.args.ty.now) in
    subst (λ (z : Responder). IfOk c.says.result (λ text. Answers z q (string_bytes text) z)) c.self.view_is
    (reply_answers string_bytes c.says.result s q c.in-Ok.ensures.silent
    (IfOk-weaker c.says.result (λ text. string_bytes text ≡ reply_line (if c.in-Ok.yes then codes "yes" else codes "no")) (λ text. Reply s q (string_bytes text)) (λ text e. says_which _ c.in-Ok.yes (codes "yes") (codes "no") (string_bytes text) c.in-Ok.ensures.exact e) c.says.ensures))

pub returns-in-Err-clause-answers : goal.returns-in-Err-clause-answers
returns-in-Err-clause-answers c =
    let i = c.self.inside in
    let q = typed c.args.term.now (type_of c.args.ty.now) in
    subst (λ (z : Responder). IfOk c.engine_fault.result (λ text. Answers z q (string_bytes text) z)) c.self.view_is
    (fault_answers string_bytes c.engine_fault.result (responder_of i.names i.variables i.components i.kinds i.templates i.filter_names i.filters i.engine (held_lines i.held)) q c.in-Err.fault c.in-Err.ensures.fault c.engine_fault.ensures)
