use Rattle.std.proofs.Common.{ℕ, arith, ◌≡◌, ◌+◌, ◌-◌, ◌*◌, ap, ◌∙◌}
use Rattle.cls_walk.specs.Counts.{total_below}
use Rattle.cls_walk.specs.Tables.{capped, number_at}
use Rattle.cls_walk.proofs.Capped.{two-total}
use Rattle.cls_walk.proofs.ways.two_ways.Goals as goal

pub returns : goal.returns
returns c =
    let count = number_at c.args.table.now in
    let r = c.args.rest in
    let e : c.loop-size.size ≡ r + 1 = omega (arith, c.loop-size-test.false, c.loop-size.auto.size-end) in
    two-total count c.args.first c.args.second r c.loop-size.total (c.loop-size.invariant ∙ ap (λ (n : ℕ). capped (total_below n (λ t. count t c.args.first * count (r - t) c.args.second))) e)
