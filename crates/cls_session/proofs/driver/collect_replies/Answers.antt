use Rattle.std.proofs.Common.{◌++◌, arith, refl, ◌∙◌}
use Rattle.std.proofs.lemmas.Result.{err_from_is_err_and}
use Rattle.cls_session.proofs.Driving.{shorter_next}
use Rattle.cls_session.proofs.Pending.{pending_none, pending_held, pending_next, leaves_pending, refuses_pending, fits_pending, fails_pending, reply_stands, refusal_stands}
use Rattle.cls_session.proofs.Portions.{reply_stops}
use Rattle.cls_session.proofs.driver.collect_replies.Goals as goal

pub lines-init : goal.lines-init
lines-init g c = record {
  answered = rw c.new-rest.ensures (pending_none (g.K.Sink.seen c.args.sink.now) c.args.session.now (c.args.reader.now ++ c.args.piece.now) c.args.pending.now c.requires.none_pending);
  few_lines = rw c.new-rest.ensures (omega arith);
  faults = refl;
}

pub returns-in_default-clause-answers : goal.returns-in_default-clause-answers
returns-in_default-clause-answers g c =
    let held = rw c.in_default.is at c.in_ok-line.ensures.held in
    pending_held held c.lines.invariant.answered

pub returns-in_err-line-clause-answers : goal.returns-in_err-line-clause-answers
returns-in_err-line-clause-answers g c =
    let p = err_from_is_err_and c.from_residual.result c.from_residual.ensures.1 in
    rw (p.1, p.2) (leaves_pending c.lines.invariant.answered)

pub returns-in_err-answer-clause-answers : goal.returns-in_err-answer-clause-answers
returns-in_err-answer-clause-answers g c =
    let p = err_from_is_err_and c.from_residual-in_err-answer.result c.from_residual-in_err-answer.ensures.1 in
    rw (p.1, p.2) (leaves_pending c.lines.invariant.answered)

pub put_reply-requires-clause-printable : goal.put_reply-requires-clause-printable
put_reply-requires-clause-printable g c = rw c.in-Reply.is at c.in_ok-answer.ensures.printable

pub put_reply-requires-clause-room : goal.put_reply-requires-clause-room
put_reply-requires-clause-room g c =
    let cut = rw c.in-Some.is at c.in_ok-line.ensures.line in
    let replied = rw c.in-Reply.is at c.in_ok-answer.ensures.answered in
    fits_pending c.lines.invariant.answered cut (reply_stands replied) c.requires.room

pub put-requires : goal.put-requires
put-requires g c =
    let cut = rw c.in-Some.is at c.in_ok-line.ensures.line in
    let refused = rw c.in-Refusal.is at c.in_ok-answer.ensures.answered in
    rw c.as_str.ensures.value (fits_pending c.lines.invariant.answered cut (refusal_stands refused) c.requires.room)

pub returns-in_err-put_reply-in-Reply-clause-answers : goal.returns-in_err-put_reply-in-Reply-clause-answers
returns-in_err-put_reply-in-Reply-clause-answers g c =
    let cut = rw c.in-Some.is at c.in_ok-line.ensures.line in
    let replied = rw c.in-Reply.is at c.in_ok-answer.ensures.answered in
    let p = err_from_is_err_and c.from_residual-in_err-put_reply-in-Reply.result c.from_residual-in_err-put_reply-in-Reply.ensures.1 in
    rw (p.1, p.2) (reply_stops _ _ _ _ _ (g.K.Sink.seen c.put_reply.new.sink) c.put_reply.new.pending c.lines.invariant.answered cut replied c.in_err-put_reply-in-Reply.ensures.put)

pub returns-in_err-put-in-Refusal-clause-answers : goal.returns-in_err-put-in-Refusal-clause-answers
returns-in_err-put-in-Refusal-clause-answers g c =
    let cut = rw c.in-Some.is at c.in_ok-line.ensures.line in
    let refused = rw c.in-Refusal.is at c.in_ok-answer.ensures.answered in
    let p = err_from_is_err_and c.from_residual-in_err-put-in-Refusal.result c.from_residual-in_err-put-in-Refusal.ensures.1 in
    rw (p.1, p.2) (fails_pending c.lines.invariant.answered cut (refusal_stands refused) (rw c.as_str.ensures.value at c.in_err-put-in-Refusal.ensures.front))

pub returns-in-Refusal-clause-answers : goal.returns-in-Refusal-clause-answers
returns-in-Refusal-clause-answers g c =
    let cut = rw c.in-Some.is at c.in_ok-line.ensures.line in
    let refused = rw c.in-Refusal.is at c.in_ok-answer.ensures.answered in
    refuses_pending c.lines.invariant.answered cut refused (rw c.as_str.ensures.value at c.in_ok-put-in-Refusal.ensures.written)

pub lines-preserved : goal.lines-preserved
lines-preserved g c =
    let cut = rw c.in-Some.is at c.in_ok-line.ensures.line in
    let fresh = rw c.in-Some.is at c.in_ok-line.ensures.fresh in
    let replied = rw c.in-Reply.is at c.in_ok-answer.ensures.answered in
    record {
      answered = rw c.put_reply.ensures.same (pending_next fresh cut c.lines.invariant.answered replied c.in_ok-put_reply-in-Reply.ensures.put);
      few_lines = (let less = shorter_next fresh cut in rw c.put_reply.ensures.same (omega (arith, c.in_ok-answer.ensures.counted, c.lines.invariant.few_lines)));
      faults = c.in_ok-put_reply-in-Reply.ensures.faults ∙ c.lines.invariant.faults;
    }
