use Rattle.std.proofs.Common.{◌≡◌, ◌+◌, ◌-◌, ◌<◌, ◌≤◌, length, sym, subst, arith}
use Rattle.cls_library.specs.Arrows.{MultiArrow}
use Rattle.cls_library.specs.Reaching.{PathsLeIn}
use Rattle.cls_check.specs.Deciding.{targets_of, no_arrow, arrow_of, source_of}
use Rattle.cls_check.proofs.DecidingSteps.{both_ways}
use Rattle.cls_check.proofs.Keeping.{arrow_got, each_arrow, dropped_length, dropped_among, dropped_keeps, dropped_done, done_more}
use Rattle.cls_check.proofs.reaching.keep_with_source.Goals as goal

pub loop-i-preserved-then-not-has_source : goal.loop-i-preserved-then-not-has_source
loop-i-preserved-then-not-has_source c =
    let i = c.loop-i.i - 1 in
    let some : 0 < c.loop-i.i = c.loop-i-test.true in
    let within : c.loop-i.i ≤ length c.loop-i.kept = c.loop-i.invariant.within in
    let at : i < length c.loop-i.kept = omega arith in
    let size : length c.swap_remove.new.self + 1 ≡ length c.loop-i.kept = dropped_length no_arrow c.loop-i.kept c.swap_remove.new.self i at c.swap_remove.ensures in
    record {
      within = omega arith;
      among = (λ a m. c.loop-i.invariant.among a (dropped_among no_arrow c.loop-i.kept c.swap_remove.new.self i at c.swap_remove.ensures a m));
      complete = (λ a m p. dropped_keeps no_arrow c.loop-i.kept c.swap_remove.new.self i at c.swap_remove.ensures (λ b. PathsLeIn c.args.lib.now (targets_of c.args.had.now) (source_of b c.args.place))
          (λ h. both_ways (c.has_source.ensures.1 (subst (λ (b : MultiArrow). PathsLeIn c.args.lib.now (targets_of c.args.had.now) (source_of b c.args.place)) (arrow_got c.loop-i.kept i c.get.result c.get.ensures) h)) c.if-not-has_source.true)
          a (c.loop-i.invariant.complete a m p) p);
      done = dropped_done no_arrow c.loop-i.kept c.swap_remove.new.self i at c.swap_remove.ensures (λ b. PathsLeIn c.args.lib.now (targets_of c.args.had.now) (source_of b c.args.place))
          (λ k b m. c.loop-i.invariant.done k (let l : i < k = b in omega arith) m);
    }

pub loop-i-preserved : goal.loop-i-preserved
loop-i-preserved c =
    let i = c.loop-i.i - 1 in
    let some : 0 < c.loop-i.i = c.loop-i-test.true in
    let within : c.loop-i.i ≤ length c.loop-i.kept = c.loop-i.invariant.within in
    record {
      within = omega arith;
      among = c.loop-i.invariant.among;
      complete = c.loop-i.invariant.complete;
      done = done_more (λ k. PathsLeIn c.args.lib.now (targets_of c.args.had.now) (source_of (arrow_of c.loop-i.kept k) c.args.place)) i (length c.loop-i.kept)
          (subst (λ (b : MultiArrow). PathsLeIn c.args.lib.now (targets_of c.args.had.now) (source_of b c.args.place)) (sym (arrow_got c.loop-i.kept i c.get.result c.get.ensures)) (c.has_source.ensures.0 c.if-not-has_source.false))
          (λ k b m. c.loop-i.invariant.done k (let l : i < k = b in omega arith) m);
    }

pub returns : goal.returns
returns c = λ a. (
  (λ m. (
    c.loop-i.invariant.among a m,
    each_arrow c.loop-i.kept (λ b. PathsLeIn c.args.lib.now (targets_of c.args.had.now) (source_of b c.args.place)) (length c.loop-i.kept) (omega arith)
        (λ k l. c.loop-i.invariant.done k (let none : c.loop-i.i ≤ 0 = c.loop-i-test.false in omega arith) l) a m,
  )),
  (λ h. c.loop-i.invariant.complete a h.0 h.1),
)
