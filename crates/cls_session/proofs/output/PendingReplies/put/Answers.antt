use Rattle.std.proofs.lemmas.Result.{err_from_is_err_and}
use Rattle.cls_session.proofs.Writing.{Writes-trans, nothing_left, front_after}
use Rattle.cls_session.proofs.output.PendingReplies.put.Goals as goal

pub returns-clause-written : goal.returns-clause-written
returns-clause-written g c =
    let same = rw c.if-hold.false at c.hold.ensures in
    let first = rw same at c.in_ok-write.ensures.written in
    let last = rw c.as_bytes.ensures.value at c.in_ok-write_all.ensures.written in
    nothing_left c.in_ok-write.ensures.none_pending (Writes-trans first last)

pub returns-in_err-write_all-clause-front : goal.returns-in_err-write_all-clause-front
returns-in_err-write_all-clause-front g c =
    let same = rw c.if-hold.false at c.hold.ensures in
    let first = rw same at c.in_ok-write.ensures.written in
    let last = rw c.as_bytes.ensures.value at c.in_err-write_all.ensures.front in
    let p = err_from_is_err_and c.from_residual-in_err-write_all.result c.from_residual-in_err-write_all.ensures.1 in
    rw p.1 (front_after first last)
