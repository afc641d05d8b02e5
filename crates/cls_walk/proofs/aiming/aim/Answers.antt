use Rattle.std.proofs.Common.{get_or, refl}
use Rattle.cls_walk.specs.FrameAims.{aims_at}
use Rattle.cls_walk.specs.FrameColumns.{place_of}
use Rattle.cls_walk.specs.FrameGuides.{least_of}
use Rattle.cls_walk.specs.FrameLevels.{levels_of}
use Rattle.cls_walk.proofs.FrameAiming.{adds-all, adds-more}
use Rattle.cls_walk.proofs.FrameColumns.{no-place}
use Rattle.cls_walk.proofs.aiming.aim.Goals as goal

pub loop-place-preserved : goal.loop-place-preserved
loop-place-preserved c = λ book cost g.
    let places = c.args.places.now in
    let i = c.loop-place.place-index in
    adds-more (aims_at book (least_of c.args.guide) (levels_of c.args.levels.now c.args.below) c.args.left) place_of places i (get_or places i no-place) no-place
    c.args.aims.now.items c.loop-place.aims.items c.aim_at.new.aims.items
    c.loop-place-test.true refl (c.loop-place.invariant book cost g) (c.in_ok-aim_at.ensures book cost g)

pub returns : goal.returns
returns c = λ book cost g.
    adds-all (aims_at book (least_of c.args.guide) (levels_of c.args.levels.now c.args.below) c.args.left) place_of c.args.places.now c.loop-place.place-index c.args.aims.now.items c.loop-place.aims.items c.loop-place-test.false (c.loop-place.invariant book cost g)
