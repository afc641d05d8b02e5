use Rattle.std.proofs.Common.{◌≡◌, ◌∙◌, ℕ, [], List, ap, subst, sym}
use Rattle.std.specs.List.{flat_map}
use Rattle.cls_walk.specs.FrameAiming.{Adds}
use Rattle.cls_walk.specs.FrameAims.{Aim, aimed_by, aims_at}
use Rattle.cls_walk.specs.FrameGuides.{least_of}
use Rattle.cls_walk.specs.FrameLevels.{levels_of}
use Rattle.cls_walk.proofs.FrameColumns.{none-left}
use Rattle.cls_walk.proofs.Stretches.{on_ok}
use Rattle.cls_walk.proofs.aiming.aim_at.Goals as goal

pub returns-in_default : goal.returns-in_default
returns-in_default c = λ book cost g.
    let least = least_of c.args.guide in
    let levels = levels_of c.args.levels.now c.args.below in
    let left = c.args.left in
    let l = c.args.place.node in
    let old = c.args.aims.now.items in
    let new = c.aim_complete.new.aims.items in
    let e : c.args.place.rest.now ≡ [] = none-left c.args.place.rest.now c.in_default.ensures.cases in
    let v = c.level-level.ensures ∙ ap levels c.saturating_sub.ensures in
    let P : List Aim → Type 0 = λ zs. Adds (flat_map (aimed_by book least l) zs) old new in
    let Q : List ℕ → Type 0 = λ ms. Adds (aims_at book least levels left (l, ms)) old new in
    on_ok c.aim_complete.result (λ h. subst Q (sym e) (subst P v h)) (c.aim_complete.ensures book cost g)
