use Rattle.std.proofs.Common.{◌≡◌, ◌∙◌, ◌+◌, ◌-◌, ℕ, [], List, ap, arith, get_or, length, map, subst}
use Rattle.std.specs.List.{flat_map}
use Rattle.cls_walk.specs.FrameAiming.{levels_from, Adds}
use Rattle.cls_walk.specs.FrameAims.{Aim, stepped}
use Rattle.cls_walk.specs.FrameBegins.{aim_of}
use Rattle.cls_walk.specs.FrameGuides.{least_of}
use Rattle.cls_walk.specs.FrameLevels.{all_levels, cuts}
use Rattle.cls_walk.proofs.FrameAiming.{adds-alone}
use Rattle.cls_walk.proofs.Stretches.{on_ok}
use Rattle.cls_walk.proofs.aiming.step_on.Goals as goal

pub returns-clause-made : goal.returns-clause-made
returns-clause-made c = λ book cost g.
    let old = c.args.levels.now in
    let n = length old.ends.items in
    let step : Aim → List Aim = stepped book (least_of c.args.guide) in
    let a = c.as_slice.ensures.value in
    let b = c.as_slice-ends.ensures.value in
    let k : n - 1 ≡ n - 1 + 0 = omega arith in
    let e = c.part-last.ensures ∙ (λ i. get_or (cuts (map aim_of (a i)) 0 (b i)) (length (b i) - 1) []) ∙ ap (λ (j : ℕ). get_or (all_levels old) j []) k in
    let P : List Aim → Type 0 = λ zs. Adds (flat_map step zs) c.clear.new.self.items c.step.new.aims.items in
    on_ok c.step.result (λ h. adds-alone (flat_map step (levels_from (all_levels old) (n - 1) 0)) c.clear.new.self.items c.step.new.aims.items c.clear.ensures.items (subst P e h)) (c.step.ensures book cost g)
