use Rattle.std.proofs.Common.{◌≡◌, ◌∙◌, ◌+◌, ◌-◌, ◌<◌, ℕ, [], List, ap, arith, get_or, length, map, sym}
use Rattle.cls_walk.specs.FrameAiming.{levels_from}
use Rattle.cls_walk.specs.FrameAims.{Aim}
use Rattle.cls_walk.specs.FrameBegins.{aim_of}
use Rattle.cls_walk.specs.FrameGuides.{least_of}
use Rattle.cls_walk.specs.FrameLevels.{all_levels, levels_of}
use Rattle.cls_walk.specs.declared.aims.Levels.{Levels}
use Rattle.cls_walk.proofs.FrameAiming.{level-last, levels-by}
use Rattle.cls_walk.proofs.FrameLevels.{all-kept, all-length, levels-top}
use Rattle.cls_walk.proofs.Stretches.{on_ok}
use Rattle.cls_walk.proofs.aiming.rise.Goals as goal

pub returns-clause-first : goal.returns-clause-first
returns-clause-first c =
    let old = c.args.levels.now in
    let closed = c.close_level.new.levels in
    let mid = c.climb.new.levels in
    let new : Levels = record { aims = mid.aims; made = mid.made; ends = mid.ends; stacks = c.close_stack.new.stacks } in
    let first = c.len-first.result in
    let made = map aim_of old.made.items in
    let n : first ≡ length old.ends.items = c.len-first.ensures ∙ old.ends.ok.0 in
    let m = c.in_ok-close_level.ensures.count in
    let k : first + 0 < length closed.ends.items = omega (arith, n, m) in
    let h : first + 0 ≡ length (all_levels old) = let a = all-length old in omega (arith, n, a) in
    on_ok c.close_stack.result (λ e.
    levels-top new c.args.stack first 0 e
    ∙ all-kept closed mid (first + 0) c.in_ok-close_level.ensures.cuts c.in_ok-climb.ensures.grown k
    ∙ ap (λ (ls : List (List Aim)). get_or ls (first + 0) []) c.in_ok-close_level.ensures.last
    ∙ level-last (all_levels old) made first 0 h)
    (c.close_stack.ensures.last (all_levels mid) (all-length mid ∙ sym mid.ends.ok.0 ∙ sym c.len-end.ensures))

pub returns-clause-steps : goal.returns-clause-steps
returns-clause-steps c = λ book cost g.
    let old = c.args.levels.now in
    let closed = c.close_level.new.levels in
    let mid = c.climb.new.levels in
    let new : Levels = record { aims = mid.aims; made = mid.made; ends = mid.ends; stacks = c.close_stack.new.stacks } in
    let first = c.len-first.result in
    let stack = c.args.stack in
    let n : first ≡ length old.ends.items = c.len-first.ensures ∙ old.ends.ok.0 in
    let m = c.in_ok-close_level.ensures.count in
    let k : first ≡ length closed.ends.items - 1 = omega (arith, n, m) in
    on_ok c.close_stack.result (λ e.
    levels-by book (least_of c.args.guide) (levels_from (all_levels mid) (length closed.ends.items - 1)) (levels_of new stack) c.args.most
    (λ q. levels-top new stack first q e ∙ ap (λ (j : ℕ). get_or (all_levels mid) (j + q) []) k)
    (c.in_ok-climb.ensures.steps book cost g))
    (c.close_stack.ensures.last (all_levels mid) (all-length mid ∙ sym mid.ends.ok.0 ∙ sym c.len-end.ensures))
