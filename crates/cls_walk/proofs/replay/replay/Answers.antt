use Rattle.std.proofs.Common.{◌-◌, ◌+◌, ◌++◌, List, ℕ, map, take, arith, sym, ◌∙◌}
use Rattle.cls_walk.proofs.Replays.{copies-next, next-at, next-long, remembers-grown}
use Rattle.cls_walk.proofs.Walks.{true_no_false}
use Rattle.cls_walk.proofs.replay.replay.Goals as goal

pub copy-requires-clause-within : goal.copy-requires-clause-within
copy-requires-clause-within c =
    let r = c.args.stretch in
    let h = c.requires.holds in
    let more : List (List ℕ) = map (λ w. c.args.walk.now.code.items ++ w) (take (c.loop-place.place - r.start) h.0) in
    (next-at r c.args.walk.now.codes c.loop-place.walk.codes h.0 more c.loop-place.place h.1 (c.loop-place.invariant.listed h.0 h.1) c.loop-place.auto.place c.loop-place-test.true).0

pub copy-requires-clause-long : goal.copy-requires-clause-long
copy-requires-clause-long c =
    let r = c.args.stretch in
    let h = c.requires.holds in
    let more : List (List ℕ) = map (λ w. c.args.walk.now.code.items ++ w) (take (c.loop-place.place - r.start) h.0) in
    next-long r c.args.walk.now.codes c.loop-place.walk.codes h.0 more c.loop-place.place h.1 (c.loop-place.invariant.listed h.0 h.1) c.loop-place.auto.place c.loop-place-test.true

pub returns-then-len-plan-clause-back : goal.returns-then-len-plan-clause-back
returns-then-len-plan-clause-back c =
    let old = c.args.walk.now in
    let r = c.args.stretch in
    let i = c.loop-place.invariant in
    let h = c.requires.holds in
    let e = copies-next r old.codes c.loop-place.walk.codes c.copy.new.walk.codes h.0 old.code.items c.loop-place.walk.code.items c.loop-place.place h.1 (i.listed h.0 h.1) c.loop-place.auto.place c.loop-place-test.true i.code c.in_ok-copy.ensures.codes in
    record {
      awaited = c.in_ok-copy.ensures.awaited ∙ i.awaited;
      code = c.in_ok-copy.ensures.code ∙ i.code;
      few = λ p. absurd (true_no_false (sym p));
      full = λ p. omega (arith, c.if-len-plan.true, c.len.ensures);
      remembers = remembers-grown c.args.plan.now old c.copy.new.walk (map (λ w. old.code.items ++ w) (take (c.loop-place.place + 1 - r.start) h.0)) (c.in_ok-copy.ensures.known ∙ i.known) e;
    }

pub returns-then-len-plan-clause-copies : goal.returns-then-len-plan-clause-copies
returns-then-len-plan-clause-copies c = λ ws h.
    let old = c.args.walk.now in
    let r = c.args.stretch in
    let i = c.loop-place.invariant in (
      c.loop-place.place + 1 - r.start,
      (λ p. absurd (true_no_false (sym p))),
      copies-next r old.codes c.loop-place.walk.codes c.copy.new.walk.codes ws old.code.items c.loop-place.walk.code.items c.loop-place.place h (i.listed ws h) c.loop-place.auto.place c.loop-place-test.true i.code c.in_ok-copy.ensures.codes,
    )

pub loop-place-preserved : goal.loop-place-preserved
loop-place-preserved c =
    let old = c.args.walk.now in
    let i = c.loop-place.invariant in
    record {
      awaited = c.in_ok-copy.ensures.awaited ∙ i.awaited;
      code = c.in_ok-copy.ensures.code ∙ i.code;
      known = c.in_ok-copy.ensures.known ∙ i.known;
      few = omega (arith, c.if-len-plan.false, c.len.ensures);
      listed = λ ws h. copies-next c.args.stretch old.codes c.loop-place.walk.codes c.copy.new.walk.codes ws old.code.items c.loop-place.walk.code.items c.loop-place.place h (i.listed ws h) c.loop-place.auto.place c.loop-place-test.true i.code c.in_ok-copy.ensures.codes;
    }

pub returns-clause-back : goal.returns-clause-back
returns-clause-back c =
    let old = c.args.walk.now in
    let i = c.loop-place.invariant in
    let h = c.requires.holds in
    record {
      awaited = i.awaited;
      code = i.code;
      few = λ p. i.few;
      full = λ p. absurd (true_no_false p);
      remembers = remembers-grown c.args.plan.now old c.loop-place.walk (map (λ w. old.code.items ++ w) (take (c.loop-place.place - c.args.stretch.start) h.0)) i.known (i.listed h.0 h.1);
    }

pub returns-clause-copies : goal.returns-clause-copies
returns-clause-copies c = λ ws h.
    let e = h.end in (
      c.loop-place.place - c.args.stretch.start,
      (λ p. omega (arith, e, c.loop-place-test.false, c.loop-place.auto.place, c.loop-place.auto.place-end)),
      c.loop-place.invariant.listed ws h,
    )
