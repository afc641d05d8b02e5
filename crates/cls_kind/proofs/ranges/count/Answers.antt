use Rattle.std.proofs.Common.{◌≡◌, ◌+◌, ◌*◌, ◌^◌, ◌<◌, ◌≤◌, length, map, sym, arith, rules, subst}
use Rattle.cls_base.specs.Limits.{max_instances}
use Rattle.cls_kind.specs.Ranges.{range_of}
use Rattle.cls_kind.proofs.Choosing.{counts_more, counts_many}
use Rattle.cls_kind.proofs.Counting.{Counts}
use Rattle.cls_kind.proofs.ranges.count.Goals as goal

pub returns-in_err-count : goal.returns-in_err-count
returns-in_err-count c =
    let far : c.loop-range.count * length c.range-item.result.choices.now < 2 ^ 64 → ⊥ = c.in_err-count.ensures in
    rw c.from_residual.ensures
    (counts_many c.args.ranges.now c.loop-range.range-index c.range-item.result c.loop-range-test.true c.range-item.is c.loop-range.count c.loop-range.invariant c.requires (omega (arith, far)))

pub returns-then-count-gt-MAX_INSTANCES : goal.returns-then-count-gt-MAX_INSTANCES
returns-then-count-gt-MAX_INSTANCES c =
    let product : c.in_ok-count.count ≡ c.loop-range.count * length c.range-item.result.choices.now = search rules in
    counts_many c.args.ranges.now c.loop-range.range-index c.range-item.result c.loop-range-test.true c.range-item.is c.loop-range.count c.loop-range.invariant c.requires (subst (λ k. max_instances < k) product c.if-count-gt-MAX_INSTANCES.true)

pub loop-range-preserved : goal.loop-range-preserved
loop-range-preserved c =
    let product : c.in_ok-count.count ≡ c.loop-range.count * length c.range-item.result.choices.now = search rules in
    subst (λ k. Counts (map range_of c.args.ranges.now) (c.loop-range.range-index + 1) k) (sym product)
    (counts_more c.args.ranges.now c.loop-range.range-index c.range-item.result c.loop-range-test.true c.range-item.is c.loop-range.count c.loop-range.invariant (subst (λ k. k ≤ max_instances) product c.if-count-gt-MAX_INSTANCES.false))
