use Rattle.std.proofs.lemmas.Result.{err_from_is_err_and}
use Rattle.cls_session.proofs.Breaks.{breaks_unread, breaks_refusal}
use Rattle.cls_session.proofs.Driving.{text_fits, refusal_fits}
use Rattle.cls_session.proofs.Portions.{in_any_case, line_replied}
use Rattle.cls_session.proofs.driver.answer_line.Goals as goal

pub write_reply-requires-clause-printable : goal.write_reply-requires-clause-printable
write_reply-requires-clause-printable g c = rw c.in-Reply.is at c.in_ok-answer.ensures.printable

pub write_reply-requires-clause-room : goal.write_reply-requires-clause-room
write_reply-requires-clause-room g c =
    let replied = rw c.in-Reply.is at c.in_ok-answer.ensures.answered in
    text_fits c.requires.room replied

pub write_all-requires : goal.write_all-requires
write_all-requires g c =
    let replied = rw c.in-Refusal.is at c.in_ok-answer.ensures.answered in
    rw c.as_bytes.ensures.value (refusal_fits c.requires.room replied)

pub returns-in-Reply-clause-answers : goal.returns-in-Reply-clause-answers
returns-in-Reply-clause-answers g c =
    let replied = rw c.in-Reply.is at c.in_ok-answer.ensures.answered in
    rw c.write_reply.ensures.same (line_replied c.write_reply.result (g.K.Sink.seen c.args.sink.now) (g.K.Sink.seen c.write_reply.new.sink) replied c.write_reply.ensures.written)

pub returns-in-Reply-clause-counted : goal.returns-in-Reply-clause-counted
returns-in-Reply-clause-counted g c = rw c.write_reply.ensures.same (in_any_case c.write_reply.result c.in_ok-answer.ensures.counted)

pub returns-in_ok-write_all-in-Refusal-clause-answers : goal.returns-in_ok-write_all-in-Refusal-clause-answers
returns-in_ok-write_all-in-Refusal-clause-answers g c = record {
  reply = λ o lines written stands.
      let replied = rw c.in-Refusal.is at c.in_ok-answer.ensures.answered in
      (_, replied o lines written stands, rw c.as_bytes.ensures.value at c.in_ok-write_all-in-Refusal.ensures.written);
}

pub returns-in_err-answer-clause-answers : goal.returns-in_err-answer-clause-answers
returns-in_err-answer-clause-answers g c =
    let p = err_from_is_err_and c.from_residual.result c.from_residual.ensures.1 in
    rw (p.1, p.2) (breaks_unread (g.K.Sink.seen c.args.sink.now) c.args.session.now c.args.line)

pub returns-in_err-write_all-in-Refusal-clause-answers : goal.returns-in_err-write_all-in-Refusal-clause-answers
returns-in_err-write_all-in-Refusal-clause-answers g c =
    let replied = rw c.in-Refusal.is at c.in_ok-answer.ensures.answered in
    let p = err_from_is_err_and c.from_residual-in_err-write_all-in-Refusal.result c.from_residual-in_err-write_all-in-Refusal.ensures.1 in
    rw (p.1, p.2) (breaks_refusal replied (rw c.as_bytes.ensures.value at c.in_err-write_all-in-Refusal.ensures.front))
