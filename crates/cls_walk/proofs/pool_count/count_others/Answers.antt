use Rattle.std.proofs.Common.{◌+◌, ◌-◌, ◌<◌, length, arith}
use Rattle.std.proofs.lemmas.Result.{err_from_is_err_and}
use Rattle.cls_enum.proofs.FillSteps.{IfTooMany-weaker}
use Rattle.cls_enum.proofs.StateLaws.{too_much-next}
use Rattle.cls_walk.specs.Exact.{asked}
use Rattle.cls_walk.proofs.ExactCounts.{made-more, made-next, over-more}
use Rattle.cls_walk.proofs.pool_count.count_others.Goals as goal

pub returns-in_err-total-clause-over : goal.returns-in_err-total-clause-over
returns-in_err-total-clause-over c = λ book h m.
    let plan = c.args.plan.now in
    let q = c.args.search in
    let r = asked plan q in
    let s = c.args.size in
    let n = c.loop-node.node in
    let total = c.loop-node.total in
    let l : n < length book = omega (arith, c.loop-node-test.true, c.loop-node.auto.node-end, h.width) in
    let made = c.loop-node.invariant.made book h m in
    let p = err_from_is_err_and c.from_residual.result c.from_residual.ensures.1 in
    rw (p.1, p.2) (IfTooMany-weaker _ _ _
    (λ a. too_much-next book r s (n + 1) q.pool (over-more book r plan.positive s n total (q.pool - total) q.pool l made a (omega arith)))
    (c.in_err-total.ensures.over book h.guide))

pub loop-node-preserved : goal.loop-node-preserved
loop-node-preserved c =
    let plan = c.args.plan.now in
    record {
      within = omega (arith, c.in_ok-total.ensures.within, c.loop-node.invariant.within);
      made = λ book h m.
          made-more book (asked plan c.args.search) plan.positive c.args.size c.loop-node.node c.loop-node.total c.in_ok-total.field-0
          (omega (arith, c.loop-node-test.true, c.loop-node.auto.node-end, h.width))
          (c.loop-node.invariant.made book h m)
          (c.in_ok-total.ensures.exact book h.guide);
    }

pub returns-clause-made : goal.returns-clause-made
returns-clause-made c = λ book h m.
    let plan = c.args.plan.now in
    made-next book (asked plan c.args.search) plan.positive c.args.size c.loop-node.node c.loop-node.total
    (omega (arith, c.loop-node-test.false, c.loop-node.auto.node-end, c.loop-node.auto.node, h.width, h.some))
    (c.loop-node.invariant.made book h m)
