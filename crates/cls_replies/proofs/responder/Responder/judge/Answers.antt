use Rattle.std.proofs.Common.{◌≡◌, subst}
use Rattle.std.specs.Prelude.{IfOk, string_bytes}
use Rattle.std.proofs.lemmas.Result.{IfOk-weaker}
use Rattle.cls_base.specs.Ty.{type_of}
use Rattle.cls_proof.specs.Seen.{certificate_of}
use Rattle.cls_replies.specs.Answering.{Judges}
use Rattle.cls_replies.specs.Answering as answering
use Rattle.cls_replies.specs.Responder.{Responder, responder_of}
use Rattle.cls_replies.specs.Steps.{held_lines, IsFaultLine}
use Rattle.cls_replies.specs.Texts.{verdict_text}
use Rattle.cls_replies.proofs.Faulting.{judge_fails}
use Rattle.cls_replies.proofs.responder.Responder.judge.Goals as goal

pub returns-in-Ok : goal.returns-in-Ok
returns-in-Ok c =
    let i = c.self.inside in
    let s = responder_of i.names i.variables i.components i.kinds i.templates i.filter_names i.filters i.engine (held_lines i.held) in
    let t = type_of c.args.goal.now in
    let p = certificate_of c.args.certificate.now in
    subst (λ (s : Responder). IfOk c.verdict_line.result (λ text. Judges s t p (string_bytes text))) c.self.view_is
    (IfOk-weaker c.verdict_line.result (λ text. string_bytes text ≡ verdict_text c.in-Ok.verdict) (λ text. Judges s t p (string_bytes text))
    (λ text e. answering.Judges.judged c.in-Ok.ensures.silent c.in-Ok.verdict c.in-Ok.ensures.verdict e) c.verdict_line.ensures)

pub returns-in-Err : goal.returns-in-Err
returns-in-Err c =
    let i = c.self.inside in
    let s = responder_of i.names i.variables i.components i.kinds i.templates i.filter_names i.filters i.engine (held_lines i.held) in
    let t = type_of c.args.goal.now in
    let p = certificate_of c.args.certificate.now in
    subst (λ (s : Responder). IfOk c.engine_fault.result (λ text. Judges s t p (string_bytes text))) c.self.view_is
    (IfOk-weaker c.engine_fault.result (λ text. IsFaultLine i.names c.in-Err.fault (string_bytes text)) (λ text. Judges s t p (string_bytes text))
    (λ text l. judge_fails s t p c.in-Err.fault (string_bytes text) c.in-Err.ensures.fault l) c.engine_fault.ensures)
