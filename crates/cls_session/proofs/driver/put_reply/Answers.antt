use Rattle.std.proofs.Common.{refl, ap, sym, ◌∙◌, ◌==◌, List, ℕ, length, string_bytes}
use Rattle.std.proofs.lemmas.Result.{err_from_is_err_and}
use Rattle.cls_session.specs.Sessions.{reply_in}
use Rattle.cls_session.proofs.Portions.{no_bytes, some_bytes, portion_shorter, none_left, puts_none, puts_fits, puts_next, puts_front, puts_all, puts_some}
use Rattle.cls_session.proofs.driver.put_reply.Goals as goal

pub portions-init : goal.portions-init
portions-init g c = record {
  puts = puts_none (g.K.Sink.seen c.args.sink.now) c.args.pending.now (reply_in c.args.session.now c.args.printing) c.requires.room;
  same = refl;
  printable = c.requires.printable;
  faults = refl;
}

pub put-requires : goal.put-requires
put-requires g c =
    let bytes = string_bytes c.in_ok-portion.portion in
    let rest = reply_in c.portions.session c.in_ok-portion.rest in
    rw c.as_str-text.ensures.value (puts_fits bytes rest c.in_ok-portion.ensures.portion c.portions.invariant.puts c.requires.room)

pub portions-preserved : goal.portions-preserved
portions-preserved g c =
    let bytes = string_bytes c.in_ok-portion.portion in
    let rest = reply_in c.portions.session c.in_ok-portion.rest in
    record {
      puts = rw (c.reuse.ensures, c.print.ensures.same) (puts_next bytes rest c.in_ok-portion.ensures.portion c.portions.invariant.puts (rw c.as_str-text.ensures.value at c.in_ok-put.ensures.written));
      same = c.reuse.ensures ∙ (c.print.ensures.same ∙ c.portions.invariant.same);
      printable = rw (c.reuse.ensures, c.print.ensures.same) c.in_ok-portion.ensures.printable;
      faults = c.in_ok-put.ensures.no_fault ∙ c.portions.invariant.faults;
    }

pub portions-smaller : goal.portions-smaller
portions-smaller g c =
    let bytes = string_bytes c.in_ok-portion.portion in
    let rest = reply_in c.portions.session c.in_ok-portion.rest in
    let some = some_bytes bytes (ap (λ (xs : List ℕ). length xs == 0) (sym c.as_str-text.ensures.value) ∙ (sym c.is_empty.ensures ∙ c.if-is_empty.false)) in
    rw (c.reuse.ensures, c.print.ensures.same) (portion_shorter bytes rest c.in_ok-portion.ensures.portion some)

pub returns-then-is_empty-clause-put : goal.returns-then-is_empty-clause-put
returns-then-is_empty-clause-put g c =
    let bytes = string_bytes c.in_ok-portion.portion in
    let rest = reply_in c.portions.session c.in_ok-portion.rest in
    let none = no_bytes bytes (ap (λ (xs : List ℕ). length xs == 0) (sym c.as_str-text.ensures.value) ∙ (sym c.is_empty.ensures ∙ c.if-is_empty.true)) in
    puts_all c.portions.invariant.puts (none_left bytes rest c.in_ok-portion.ensures.portion none (c.in_ok-portion.ensures.ended none))

pub returns-in_err-portion-clause-put : goal.returns-in_err-portion-clause-put
returns-in_err-portion-clause-put g c =
    let p = err_from_is_err_and c.from_residual.result c.from_residual.ensures.1 in
    rw (p.1, p.2) (puts_some c.portions.invariant.puts)

pub returns-in_err-put-clause-put : goal.returns-in_err-put-clause-put
returns-in_err-put-clause-put g c =
    let bytes = string_bytes c.in_ok-portion.portion in
    let rest = reply_in c.portions.session c.in_ok-portion.rest in
    let p = err_from_is_err_and c.from_residual-in_err-put.result c.from_residual-in_err-put.ensures.1 in
    rw (p.1, p.2) (puts_front bytes rest c.in_ok-portion.ensures.portion c.portions.invariant.puts (rw c.as_str-text.ensures.value at c.in_err-put.ensures.front))
