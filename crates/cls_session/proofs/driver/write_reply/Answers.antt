use Rattle.std.proofs.Common.{refl, ap, sym, ◌∙◌, ◌==◌, List, ℕ, length, string_bytes}
use Rattle.std.proofs.lemmas.Result.{err_from_is_err_and}
use Rattle.cls_session.specs.Sessions.{reply_in}
use Rattle.cls_session.proofs.Portions.{no_bytes, some_bytes, portion_shorter, none_left, writes_none, writes_fits, writes_next, writes_front, writes_all, writes_some}
use Rattle.cls_session.proofs.driver.write_reply.Goals as goal

pub portions-init : goal.portions-init
portions-init g c = record {
  writes = writes_none (g.K.Sink.seen c.args.sink.now) (reply_in c.args.session.now c.args.printing);
  same = refl;
  printable = c.requires.printable;
  faults = refl;
}

pub write_all-requires : goal.write_all-requires
write_all-requires g c =
    let bytes = string_bytes c.in_ok-portion.portion in
    let rest = reply_in c.portions.session c.in_ok-portion.rest in
    rw c.as_bytes-bytes.ensures.value (writes_fits bytes rest c.in_ok-portion.ensures.portion c.portions.invariant.writes c.requires.room)

pub portions-preserved : goal.portions-preserved
portions-preserved g c =
    let bytes = string_bytes c.in_ok-portion.portion in
    let rest = reply_in c.portions.session c.in_ok-portion.rest in
    record {
      writes = rw (c.reuse.ensures, c.print.ensures.same) (writes_next bytes rest c.in_ok-portion.ensures.portion c.portions.invariant.writes (rw c.as_bytes-bytes.ensures.value at c.in_ok-write_all.ensures.written));
      same = c.reuse.ensures ∙ (c.print.ensures.same ∙ c.portions.invariant.same);
      printable = rw (c.reuse.ensures, c.print.ensures.same) c.in_ok-portion.ensures.printable;
      faults = c.in_ok-write_all.ensures.no_fault ∙ c.portions.invariant.faults;
    }

pub portions-smaller : goal.portions-smaller
portions-smaller g c =
    let bytes = string_bytes c.in_ok-portion.portion in
    let rest = reply_in c.portions.session c.in_ok-portion.rest in
    let some = some_bytes bytes (ap (λ (xs : List ℕ). length xs == 0) (sym c.as_bytes-bytes.ensures.value) ∙ (sym c.is_empty.ensures ∙ c.if-is_empty.false)) in
    rw (c.reuse.ensures, c.print.ensures.same) (portion_shorter bytes rest c.in_ok-portion.ensures.portion some)

pub returns-then-is_empty-clause-written : goal.returns-then-is_empty-clause-written
returns-then-is_empty-clause-written g c =
    let bytes = string_bytes c.in_ok-portion.portion in
    let rest = reply_in c.portions.session c.in_ok-portion.rest in
    let none = no_bytes bytes (ap (λ (xs : List ℕ). length xs == 0) (sym c.as_bytes-bytes.ensures.value) ∙ (sym c.is_empty.ensures ∙ c.if-is_empty.true)) in
    writes_all c.portions.invariant.writes (none_left bytes rest c.in_ok-portion.ensures.portion none (c.in_ok-portion.ensures.ended none))

pub returns-in_err-portion-clause-written : goal.returns-in_err-portion-clause-written
returns-in_err-portion-clause-written g c =
    let p = err_from_is_err_and c.from_residual.result c.from_residual.ensures.1 in
    rw (p.1, p.2) (writes_some c.portions.invariant.writes)

pub returns-in_err-write_all-clause-written : goal.returns-in_err-write_all-clause-written
returns-in_err-write_all-clause-written g c =
    let bytes = string_bytes c.in_ok-portion.portion in
    let rest = reply_in c.portions.session c.in_ok-portion.rest in
    let p = err_from_is_err_and c.from_residual-in_err-write_all.result c.from_residual-in_err-write_all.ensures.1 in
    rw (p.1, p.2) (writes_front bytes rest c.in_ok-portion.ensures.portion c.portions.invariant.writes (rw c.as_bytes-bytes.ensures.value at c.in_err-write_all.ensures.front))
