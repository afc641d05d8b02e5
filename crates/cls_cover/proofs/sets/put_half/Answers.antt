use Rattle.std.proofs.Common.{◌^◌, ◌<◌, arith}
use Rattle.cls_cover.proofs.Halves.{put_none, put_more, put_all, left_smaller}
use Rattle.cls_cover.proofs.sets.put_half.Goals as goal

pub loop-rest-init : goal.loop-rest-init
loop-rest-init c = put_none c.args.half c.args.first c.args.list.now.items

pub loop-rest-smaller : goal.loop-rest-smaller
loop-rest-smaller c =
    let l : c.loop-rest.rest < 2 ^ 64 = omega arith in
    left_smaller c.args.half c.args.first c.loop-rest.rest l c.loop-rest-test.true

pub loop-rest-preserved : goal.loop-rest-preserved
loop-rest-preserved c =
    let l : c.loop-rest.rest < 2 ^ 64 = omega arith in
    rw c.in_ok-push.ensures.items (put_more c.args.half c.args.first c.loop-rest.rest l c.loop-rest-test.true c.args.list.now.items c.loop-rest.list.items c.loop-rest.invariant)

pub returns : goal.returns
returns c = put_all c.args.half c.args.first c.args.list.now.items c.loop-rest.list.items c.loop-rest.rest c.loop-rest-test.false c.loop-rest.invariant
