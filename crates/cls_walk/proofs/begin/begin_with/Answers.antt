use Rattle.std.proofs.Common.{◌+◌, ◌≤◌, refl, arith}
use Rattle.cls_walk.specs.FrameBegins.{aim_of}
use Rattle.cls_walk.specs.FrameColumns.{head_of}
use Rattle.cls_walk.specs.Tables.{capped}
use Rattle.cls_walk.proofs.FrameBegins.{begun-in, small-sum}
use Rattle.cls_walk.proofs.begin.begin_with.Goals as goal

pub returns-in_ok-push : goal.returns-in_ok-push
returns-in_ok-push c = λ own e.
    let h = head_of c.args.head in
    let a = aim_of c.args.aim in
    let size = c.args.size in
    let p = c.plus.ensures in
    let t = c.if-plus-from.true in
    let f = c.from.ensures in
    let l : capped (c.args.total + a.1) ≤ size = omega (arith, p, t, f) in
    begun-in own a c.args.component c.args.count size h c.args.places.now.items c.push.new.self.items _ c.in_ok-push.ensures.items refl c.if-head-component.true c.if-head-count.true
    (small-sum (own h) c.args.total a.1 size e c.ranges.size.fits l)
