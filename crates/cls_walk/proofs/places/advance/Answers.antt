use Rattle.std.proofs.Common.{map}
use Rattle.cls_walk.proofs.FrameColumns.{follows-more}
use Rattle.cls_walk.specs.FrameColumns.{place_of}
use Rattle.cls_walk.proofs.places.advance.Goals as goal

pub loop-place-preserved : goal.loop-place-preserved
loop-place-preserved c = λ book rules.
    follows-more book (map place_of c.args.above.now) c.args.old.now c.loop-place.place-index c.args.places.now.items c.loop-place.places.items c.follow.new.places.items c.loop-place-test.true (c.loop-place.invariant book rules) (c.in_ok-follow.ensures book rules)
