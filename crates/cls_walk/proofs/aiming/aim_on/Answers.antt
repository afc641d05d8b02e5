use Rattle.std.proofs.Common.{List, map, sym, subst}
use Rattle.cls_walk.specs.FrameAims.{next_aims, Aim, AreThinned}
use Rattle.cls_walk.specs.FrameColumns.{place_of}
use Rattle.cls_walk.specs.FrameGuides.{least_of}
use Rattle.cls_walk.specs.FrameLevels.{levels_of}
use Rattle.cls_walk.specs.Frames.{Frame}
use Rattle.cls_walk.proofs.FrameAiming.{adds-alone}
use Rattle.cls_walk.proofs.Stretches.{on_ok}
use Rattle.cls_walk.proofs.aiming.aim_on.Goals as goal

pub returns-clause-first : goal.returns-clause-first
returns-clause-first c = λ book cost g.
    let frame : Frame = record { places = map place_of c.args.places.now; left = c.args.mark.left } in
    let whole = next_aims book (least_of c.args.guide) (levels_of c.args.levels.now c.args.mark.below) frame in
    let P : List Aim → Type 0 = λ z. AreThinned whole z in
    on_ok c.rise.result
    (λ e. subst P (sym e) (adds-alone whole c.clear.new.self.items c.aim.new.aims.items c.clear.ensures.items (c.in_ok-aim.ensures book cost g)))
    c.rise.ensures.first
