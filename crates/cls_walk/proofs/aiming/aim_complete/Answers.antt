use Rattle.std.proofs.Common.{◌∙◌, ℕ, List, ap, get_or, map, refl, subst}
use Rattle.std.specs.List.{flat_map}
use Rattle.cls_walk.specs.FrameAiming.{aimed_pair, no_aim, Adds}
use Rattle.cls_walk.specs.FrameAims.{aimed_by}
use Rattle.cls_walk.specs.FrameBegins.{aim_of}
use Rattle.cls_walk.specs.FrameColumns.{pair_of}
use Rattle.cls_walk.specs.FrameGuides.{least_of}
use Rattle.cls_walk.proofs.FrameAiming.{adds-all, adds-more}
use Rattle.cls_walk.proofs.aiming.aim_complete.Goals as goal

pub loop-aim-preserved : goal.loop-aim-preserved
loop-aim-preserved c = λ book cost g.
    let level = c.args.level.now in
    let i = c.loop-aim.aim-index in
    let a = get_or level i no_aim in
    let node = c.args.node in
    let here = c.loop-aim.aims.items in
    let new = c.aim_by_pairs.new.aims.items in
    let e = ap (map pair_of) c.pairs_of.ensures ∙ g.rules.pairs a.node in
    let P : List (ℕ × ℕ) → Type 0 = λ zs. Adds (flat_map (aimed_pair node a.behind) zs) here new in
    adds-more (aimed_by book (least_of c.args.guide) node) aim_of level i a no_aim c.args.aims.now.items here new c.loop-aim-test.true refl
    (c.loop-aim.invariant book cost g) (subst P e c.in_ok-aim_by_pairs.ensures)

pub returns : goal.returns
returns c = λ book cost g.
    adds-all (aimed_by book (least_of c.args.guide) c.args.node) aim_of c.args.level.now c.loop-aim.aim-index c.args.aims.now.items c.loop-aim.aims.items c.loop-aim-test.false (c.loop-aim.invariant book cost g)
