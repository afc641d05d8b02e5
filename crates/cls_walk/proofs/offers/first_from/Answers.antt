use Rattle.std.proofs.Common.{◌<◌, ◌+◌, ◌-◌, ◌/◌, ◌∙◌, sym, arith}
use Rattle.cls_walk.proofs.FrameBegins.{before-half, from-half}
use Rattle.cls_walk.proofs.FrameColumns.{apart}
use Rattle.cls_walk.proofs.offers.first_from.Goals as goal

pub loop-low-preserved-then-is_earlier : goal.loop-low-preserved-then-is_earlier
loop-low-preserved-then-is_earlier c =
    let (a, b, d, e) = c.loop-low.invariant in
    let low = c.loop-low.low in
    let high = c.loop-low.high in
    let l = c.loop-low-test.true in
    let middle = low + (high - low) / 2 in
    let m : middle < high = omega (arith, l) in
    (omega (arith, m), b, before-half c.args.heads.now middle c.args.component c.args.count c.requires (omega (arith, m, b)) (c.is_earlier.ensures.0 c.if-is_earlier.true), e)

pub loop-low-preserved : goal.loop-low-preserved
loop-low-preserved c =
    let (a, b, d, e) = c.loop-low.invariant in
    let low = c.loop-low.low in
    let high = c.loop-low.high in
    let l = c.loop-low-test.true in
    let middle = low + (high - low) / 2 in
    let m : middle < high = omega (arith, l) in
    (omega arith, omega (arith, m, b), d, from-half c.args.heads.now middle c.args.component c.args.count c.requires (λ s. apart (sym (c.is_earlier.ensures.1 s) ∙ c.if-is_earlier.false)))
