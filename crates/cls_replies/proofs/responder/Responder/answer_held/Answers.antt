use Rattle.std.proofs.Common.{ap, sym, subst}
use Rattle.std.specs.Prelude.{IfOk, string_bytes}
use Rattle.std.proofs.lemmas.Result.{IfOk-weaker}
use Rattle.cls_replies.specs.Answering.{Verified}
use Rattle.cls_replies.specs.Responder.{Responder, responder_of}
use Rattle.cls_replies.specs.Steps.{held_lines, Concludes}
use Rattle.cls_replies.proofs.Holding.{concludes_held}
use Rattle.cls_replies.proofs.responder.Responder.answer_held.Goals as goal

pub returns-in-Some-clause-concludes : goal.returns-in-Some-clause-concludes
returns-in-Some-clause-concludes c =
    let i = c.self.inside in
    let s = responder_of i.names i.variables i.components i.kinds i.templates i.filter_names i.filters i.engine (held_lines i.held) in
    let v = responder_of i.names i.variables i.components i.kinds i.templates i.filter_names i.filters i.engine (held_lines c.take.new.self) in
    let h = c.in-Some.field-0 in
    subst (λ (z : Responder). IfOk c.verify.result (λ text. Concludes z z.held (string_bytes text) c.verify.new.self)) c.self.view_is
    (IfOk-weaker c.verify.result (λ text. Verified v h.line h.inside (string_bytes text) c.verify.new.self) (λ text. Concludes s s.held (string_bytes text) c.verify.new.self)
    (λ text k. concludes_held s v c.verify.new.self h.line h.inside (string_bytes text) (ap held_lines (sym c.in-Some.ensures.value))
    (λ j. responder_of i.names i.variables i.components i.kinds i.templates i.filter_names i.filters i.engine (held_lines (c.take.ensures.after j))) k) c.verify.ensures.verified)
