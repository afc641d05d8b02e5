use Rattle.std.proofs.Common.{length, ap, arith}
use Rattle.cls_term.specs.Costs.{cost_of}
use Rattle.cls_walk.specs.FramePlans.{AreAimed}
use Rattle.cls_walk.proofs.FramePlans.{aimed-start}
use Rattle.cls_walk.proofs.FrameStrolls.{asking-none, stroll-whole}
use Rattle.cls_walk.proofs.stroll.stroll.Goals as goal

pub returns-clause-listed : goal.returns-clause-listed
returns-clause-listed c = λ book right.
    let plan = c.args.plan.now in
    let cost = cost_of plan.costs.now in
    let f = c.new-frames.result in
    let l = c.aim_start.new.levels in
    let b = c.in_ok-aim_start.ensures in
    let aimed = aimed-start book plan.guide f l 63 b.first (b.steps book cost right) in
    let e = ap length c.new-frames.ensures.marks in
    let none : AreAimed book plan.guide f l = λ i n. absurd (omega (arith, n, e)) in
    stroll-whole book cost plan.guide.start f c.args.size c.args.cursor c.args.walk.now c.go_on.new.walk c.go_on.result
    (c.go_on.ensures.listed book 63 right none aimed (omega arith) (asking-none f))
