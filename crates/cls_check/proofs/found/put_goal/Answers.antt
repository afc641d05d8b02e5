use Rattle.std.proofs.Common.{◌≡◌, ◌≤◌, ℕ, List, length, get_or, sym, subst, ap, arith}
use Rattle.cls_path.specs.Paths.{TypePath, listed, unit}
use Rattle.cls_library.specs.Libraries.{variances_in}
use Rattle.cls_library.specs.Reaching.{PathLeIn}
use Rattle.cls_check.specs.Deciding.{SomeAbove}
use Rattle.cls_check.specs.Found.{Adds, HasOne}
use Rattle.cls_check.specs.Places.{arrows_in}
use Rattle.cls_check.proofs.DecidingSteps.{item_is, item_suits}
use Rattle.cls_check.proofs.FoundLaws.{adds-alike, adds-begin, adds-more, goal-above}
use Rattle.cls_check.proofs.found.put_goal.Goals as goal

pub put_path-requires-clause-path : goal.put_path-requires-clause-path
put_path-requires-clause-path c = item_suits (variances_in c.args.lib.now.taxonomy) c.args.goal.now c.paths-path-items.result.now c.loop-path.path-index c.path-item.result c.paths-path-items.ensures c.loop-path-test.true c.path-item.is c.requires.goal

pub loop-path-init : goal.loop-path-init
loop-path-init c = adds-begin (arrows_in c.args.lib.now c.args.place) (λ k p. PathLeIn c.args.lib.now p (get_or c.args.goal.now k unit)) c.args.positions.now.items

pub loop-path-preserved : goal.loop-path-preserved
loop-path-preserved c =
    let l = c.args.lib.now in
    let arrows = arrows_in l c.args.place in
    let i = c.loop-path.path-index in
    let leads : ℕ → TypePath → Type 0 = λ k p. PathLeIn l p (get_or c.args.goal.now k unit) in
    let q = c.path-item.result in
    let at : get_or c.args.goal.now i unit ≡ q = item_is c.args.goal.now c.paths-path-items.result.now i q unit c.paths-path-items.ensures c.loop-path-test.true c.path-item.is in
    adds-more arrows leads i c.args.positions.now.items c.loop-path.positions.items c.put_path.new.positions.items c.loop-path.invariant
    (subst (λ (r : TypePath). Adds arrows (λ p. PathLeIn l p r) c.loop-path.positions.items c.put_path.new.positions.items) (sym at) (c.in_ok-put_path.ensures c.if-not-branch.false))

pub returns : goal.returns
returns c = λ _.
    let l = c.args.lib.now in
    let size : length c.paths-path-items.result.now ≡ length c.args.goal.now = ap (λ (ps : List TypePath). length ps) c.paths-path-items.ensures in
    let t : length c.paths-path-items.result.now ≤ c.loop-path.path-index = c.loop-path-test.false in
    let u : c.loop-path.path-index ≤ length c.paths-path-items.result.now = c.loop-path.auto.path-index-end in
    let e : c.loop-path.path-index ≡ length c.args.goal.now = omega arith in
    adds-alike (arrows_in l c.args.place) (HasOne (λ k p. PathLeIn l p (get_or c.args.goal.now k unit)) c.loop-path.path-index) (SomeAbove l (listed c.args.goal.now)) c.args.positions.now.items c.loop-path.positions.items
    (goal-above l c.args.goal.now c.loop-path.path-index e) c.loop-path.invariant
