use Rattle.std.proofs.Common.{arith, ℕ, ◌≡◌, ◌-◌, ◌*◌, ap, ◌∙◌}
use Rattle.cls_walk.specs.Counts.{total_below}
use Rattle.cls_walk.specs.Stages.{counts}
use Rattle.cls_walk.specs.Tables.{capped}
use Rattle.cls_walk.proofs.Capped.{pair-total}
use Rattle.cls_walk.proofs.ways.pair_ways_of.Goals as goal

pub returns : goal.returns
returns c =
    let stage = c.args.stage.now in
    let count = counts stage in
    let s = stage.size in
    let e : c.loop-smaller.smaller ≡ s = omega (arith, c.loop-smaller-test.false, c.loop-smaller.auto.smaller-end) in
    pair-total count c.args.left c.args.right s c.loop-smaller.total (c.loop-smaller.invariant ∙ ap (λ (n : ℕ). capped (total_below n (λ t. count t c.args.left * count (s - t) c.args.right))) e)
