use Rattle.std.proofs.Common.{◌≡◌, ℕ, List, [], ap, subst, length, arith, get_or}
use Rattle.cls_base.specs.Terms.{length_of}
use Rattle.cls_term.specs.Banks.{term_by, IsPut}
use Rattle.cls_enum.proofs.Storing.{SpinesBelow-at, length-grown, found-short, put-step, IsGrown-put, IsGrown-trans}
use Rattle.cls_base.proofs.Lists.{AreBelow-more}
use Rattle.cls_enum.proofs.make.put_all.Goals as goal

pub put-requires-clause-earlier : goal.put-requires-clause-earlier
put-requires-clause-earlier c =
    rw c.args-in-loop-i.ensures
    (AreBelow-more (length c.args.bank.now) (length c.loop-i.bank) (get_or c.args.found.now c.loop-i.i (0, [])).1 (length-grown c.args.bank.now c.loop-i.bank c.loop-i.invariant.grown)
    (SpinesBelow-at (length c.args.bank.now) c.args.found.now c.loop-i.i (0, []) c.requires.below (omega (arith, c.loop-i-test.true, c.len-i-end.ensures))))

pub put-requires-clause-short : goal.put-requires-clause-short
put-requires-clause-short c =
    let k = get_or c.args.found.now c.loop-i.i (0, []) in
    let e : (c.head.result, c.args-in-loop-i.result.now) ≡ k = λ j. (c.head.ensures j, c.args-in-loop-i.ensures j) in
    let s = found-short c.args.bank.now c.loop-i.bank c.args.found.now c.loop-i.i c.requires c.loop-i.invariant.grown (omega (arith, c.loop-i-test.true, c.len-i-end.ensures)) in
    omega (arith, s, ap (λ (x : ℕ × List ℕ). length_of (term_by c.loop-i.bank x)) e)

pub loop-i-preserved : goal.loop-i-preserved
loop-i-preserved c =
    let ts = c.args.bank.now in
    let us = c.loop-i.bank in
    let vs = c.put.new.self in
    let k = get_or c.args.found.now c.loop-i.i (0, []) in
    let e : (c.head.result, c.args-in-loop-i.result.now) ≡ k = λ j. (c.head.ensures j, c.args-in-loop-i.ensures j) in
    let p = subst (λ (x : ℕ × List ℕ). IsPut us (term_by us x) c.in_ok-put.field-0 vs) e c.in_ok-put.ensures.put in
    let r = put-step ts us vs c.args.found.now c.loop-i.numbers.items c.loop-i.i c.in_ok-put.field-0 c.requires (omega (arith, c.loop-i-test.true, c.len-i-end.ensures)) c.loop-i.invariant.grown c.loop-i.invariant.terms c.loop-i.invariant.below p in
    record {
      grown = IsGrown-trans ts us vs c.loop-i.invariant.grown (IsGrown-put us vs (term_by us k) c.in_ok-put.field-0 p);
      terms = rw c.in_ok-push.ensures.items r.0;
      below = rw c.in_ok-push.ensures.items r.1;
    }
