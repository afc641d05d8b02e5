use Rattle.std.specs.Prelude.{string_bytes}
use Rattle.std.proofs.lemmas.Result.{IfOk-weaker}
use Rattle.cls_replies.specs.Lines.{Ends}
use Rattle.cls_replies.specs.Steps.{Concludes}
use Rattle.cls_replies.proofs.Holding.{ends_last}
use Rattle.cls_replies.proofs.responder.Responder.finish.Goals as goal

pub returns : goal.returns
returns c =
    let s = c.args.self.now in
    IfOk-weaker c.answer_held.result (λ text. Concludes s s.held (string_bytes text) c.answer_held.new.self) (λ text. Ends s (string_bytes text))
    (λ text h. ends_last s c.answer_held.new.self (string_bytes text) h) c.answer_held.ensures.concludes
