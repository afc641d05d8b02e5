use Rattle.std.proofs.Common.{◌≡◌, length, ap, add-one, arith}
use Rattle.cls_assemble.specs.Counts.{products}
use Rattle.cls_assemble.proofs.counts.Counts.length.Goals as goal

pub loop-i-preserved : goal.loop-i-preserved
loop-i-preserved c =
    let next = ap (products c.args.lengths.now c.args.self.now.holes) (add-one c.loop-i.i) in
    omega (arith, next, c.mul_capped.ensures, c.add_capped-total.ensures, c.loop-i.invariant)

pub returns : goal.returns
returns c =
    let last : c.loop-i.i ≡ length c.args.lengths.now = omega (arith, c.loop-i-test.false, c.loop-i.auto.i-end) in
    let whole = ap (products c.args.lengths.now c.args.self.now.holes) last in
    omega (arith, whole, c.add_capped.ensures, c.loop-i.invariant)
