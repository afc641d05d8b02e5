use Rattle.std.proofs.Common.{get_or, refl}
use Rattle.cls_walk.specs.FrameAiming.{no_aim}
use Rattle.cls_walk.specs.FrameAims.{stepped}
use Rattle.cls_walk.specs.FrameBegins.{aim_of}
use Rattle.cls_walk.specs.FrameGuides.{least_of}
use Rattle.cls_walk.proofs.FrameAiming.{adds-all, adds-more}
use Rattle.cls_walk.proofs.aiming.step.Goals as goal

pub loop-aim-preserved : goal.loop-aim-preserved
loop-aim-preserved c = λ book cost g.
    let level = c.args.level.now in
    let i = c.loop-aim.aim-index in
    adds-more (stepped book (least_of c.args.guide)) aim_of level i (get_or level i no_aim) no_aim c.args.aims.now.items c.loop-aim.aims.items c.step_by.new.aims.items
    c.loop-aim-test.true refl (c.loop-aim.invariant book cost g) (c.in_ok-step_by.ensures book cost g)

pub returns : goal.returns
returns c = λ book cost g.
    adds-all (stepped book (least_of c.args.guide)) aim_of c.args.level.now c.loop-aim.aim-index c.args.aims.now.items c.loop-aim.aims.items c.loop-aim-test.false (c.loop-aim.invariant book cost g)
