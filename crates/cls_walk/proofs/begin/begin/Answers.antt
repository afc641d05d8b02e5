use Rattle.std.proofs.Common.{◌≡◌, ◌∙◌, ℕ, ◌+◌, ◌<◌, ◌≤◌, ◌-◌, List, [], ap, length, map, inl, inr, subst, arith}
use Rattle.std.specs.Prelude.{◌⊎◌}
use Rattle.std.proofs.lemmas.Bool.{cases_lt}
use Rattle.cls_walk.specs.FrameAims.{Aim}
use Rattle.cls_walk.specs.FrameBegins.{AreBegun}
use Rattle.cls_walk.specs.FrameColumns.{place_of, Grows}
use Rattle.cls_walk.specs.FrameGuides.{least_of, own_size}
use Rattle.cls_walk.specs.FrameHeaps.{frame_of, stack_of}
use Rattle.cls_walk.specs.FrameLevels.{levels_of}
use Rattle.cls_walk.specs.FrameOpenings.{Begins}
use Rattle.cls_walk.specs.declared.standing.Mark.{Mark}
use Rattle.cls_walk.proofs.FrameHeaps.{if-ok, stacks-kept}
use Rattle.cls_walk.proofs.FrameOpenings.{to-level, same-frames, same-more, begun-offered, begins, on-ok}
use Rattle.cls_walk.proofs.begin.begin.Goals as goal

pub close-requires-clause-frames : goal.close-requires-clause-frames
close-requires-clause-frames c = same-frames c.args.frames.now c.loop-pairs.frames c.loop-pairs.invariant.same c.requires.frames

pub loop-pairs-preserved : goal.loop-pairs-preserved
loop-pairs-preserved c =
    let inv = c.loop-pairs.invariant in
    let i = c.loop-pairs.pairs in
    let x = c.args.opening.component in
    let k = c.args.opening.count in
    let rules = c.args.guide.rules.now in
    let made = c.loop-pairs.frames.made.items in
    let new = c.begin_at.new.places.items in
    record {
      same = record { marks = inv.same.marks; places = inv.same.places };
      grows = λ own s.
          let P : List Aim → Type 0 = λ zs. Grows (AreBegun own rules zs x (k - i) c.args.size) made new in
          to-level own rules (levels_of c.args.levels.now c.args.top) x k c.args.size i [] made new (inv.grows own s) (subst P c.level-level.ensures (c.in_ok-begin_at.ensures own s));
    }

pub returns-clause-kept : goal.returns-clause-kept
returns-clause-kept c =
    let old = c.args.frames.now in
    let mid = c.loop-pairs.frames in
    let new = c.close.new.self in
    let f = frame_of (map place_of mid.made.items) c.args.opening.count c.args.top in
    on-ok c.close.result _ ((s : ℕ) → s ≤ length old.marks.items → stack_of new s ≡ stack_of old s) c.close.ensures.standings (λ w s l.
    stacks-kept old new f s (same-more old mid new c.loop-pairs.invariant.same f w) l)

pub returns-clause-begun : goal.returns-clause-begun
returns-clause-begun c = λ book cost right cheap.
    let old = c.args.frames.now in
    let mid = c.loop-pairs.frames in
    let new = c.close.new.self in
    let same = c.loop-pairs.invariant.same in
    let x = c.args.opening.component in
    let k = c.args.opening.count in
    let levels = levels_of c.args.levels.now c.args.top in
    let size = c.args.size in
    let made = mid.made.items in
    let i = c.loop-pairs.pairs in
    let most = c.min-pairs-end.ensures in
    let sum = c.saturating_add.ensures in
    let tall = c.height.type_inv in
    let end = c.loop-pairs-test.false in
    let upto : i ≤ k + 1 = omega (arith, c.loop-pairs.auto.pairs-end, most, sum, tall) in
    let rest : (p : ℕ) → p < k + 1 → (p < i) ⊎ (levels p ≡ []) = λ p l. elim (cases_lt p i) [
      | inl m ↦ inl m
      | inr m ↦ inr (c.height.ensures p (omega (arith, l, m, end, most, sum, tall)))
    ] in
    let o = begun-offered book cost c.args.guide right levels x k size cheap i made upto rest (c.loop-pairs.invariant.grows (own_size cost c.args.guide) right.sized) in
    if-ok c.close.result (Begins book (least_of c.args.guide) levels old new c.args.top (size - cost x) x k) _ _ c.close.ensures.standings c.close.ensures.top (λ w t e.
    begins book cost c.args.guide right levels x k size cheap old new c.args.top t made o (same-more old mid new same (frame_of (map place_of made) k c.args.top) w) (e ∙ ap (λ (ms : List Mark). length ms + 1) same.marks))
