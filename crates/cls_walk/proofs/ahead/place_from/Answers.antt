use Rattle.std.proofs.Common.{◌+◌, ◌-◌, ◌/◌, ◌<◌, arith}
use Rattle.cls_walk.proofs.PutOffers.{before-half, from-half}
use Rattle.cls_walk.proofs.ahead.place_from.Goals as goal

pub loop-low-preserved-then-is_before : goal.loop-low-preserved-then-is_before
loop-low-preserved-then-is_before c =
    let inv = c.loop-low.invariant in
    let low = c.loop-low.low in
    let high = c.loop-low.high in
    let l = c.loop-low-test.true in
    let middle = low + (high - low) / 2 in
    let m : middle < high = omega (arith, l) in
    record {
      from = let f = inv.from in omega (arith, f);
      rises = omega (arith, m);
      within = inv.within;
      before = before-half c.args.first c.args.offers.now c.requires.rising c.args.opening middle (let w = inv.within in omega (arith, m, w)) (c.is_before.ensures.before c.if-is_before.true);
      not = inv.not;
    }

pub loop-low-preserved : goal.loop-low-preserved
loop-low-preserved c =
    let inv = c.loop-low.invariant in
    let low = c.loop-low.low in
    let high = c.loop-low.high in
    let l = c.loop-low-test.true in
    let middle = low + (high - low) / 2 in
    let m : middle < high = omega (arith, l) in
    record {
      from = inv.from;
      rises = omega arith;
      within = let w = inv.within in omega (arith, m, w);
      before = inv.before;
      not = from-half c.args.first c.args.offers.now c.requires.rising c.args.opening middle (let f = inv.from in omega (arith, f)) (c.is_before.ensures.not c.if-is_before.false);
    }
