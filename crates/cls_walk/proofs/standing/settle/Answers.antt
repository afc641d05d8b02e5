use Rattle.std.proofs.Common.{◌≡◌, ◌∙◌, ◌-◌, ◌≤◌, List, get_or, ap, refl, sym, subst}
use Rattle.std.specs.Prelude.{◌⊎◌}
use Rattle.cls_walk.specs.FrameHeaps.{no_mark}
use Rattle.cls_walk.specs.declared.standing.Mark.{Mark}
use Rattle.cls_walk.proofs.FrameHeaps.{under, lower, settling-next, settling-end}
use Rattle.cls_walk.proofs.standing.settle.Goals as goal

pub end_argument-requires-clause-under : goal.end_argument-requires-clause-under
end_argument-requires-clause-under c =
    let w = c.loop-below.invariant in
    let (b, e, z) = c.in-Some.ensures.some in
    under c.loop-below.frames c.loop-below.now c.in-Some.below w.frames w.some w.within
    (e ∙ ap (λ (ms : List Mark). (get_or ms (c.loop-below.now - 1) no_mark).below) c.as_slice.ensures.value)

pub loop-below-smaller : goal.loop-below-smaller
loop-below-smaller c =
    let w = c.loop-below.invariant in
    let (b, e, z) = c.in-Some.ensures.some in
    lower c.loop-below.frames c.end_argument.new.frames c.loop-below.now c.in-Some.below c.in_ok-now.now w.frames w.some w.within
    (e ∙ ap (λ (ms : List Mark). (get_or ms (c.loop-below.now - 1) no_mark).below) c.as_slice.ensures.value) c.in_ok-now.ensures.kept

pub loop-below-preserved : goal.loop-below-preserved
loop-below-preserved c =
    let w = c.loop-below.invariant in
    let (b, e, z) = c.in-Some.ensures.some in
    settling-next c.args.rules.now c.args.frames.now c.loop-below.frames c.end_argument.new.frames c.args.top c.loop-below.now c.in-Some.below c.in_ok-now.now w b
    (e ∙ ap (λ (ms : List Mark). (get_or ms (c.loop-below.now - 1) no_mark).below) c.as_slice.ensures.value)
    (ap (λ (ms : List Mark). (get_or ms (c.loop-below.now - 1) no_mark).left) (sym c.as_slice.ensures.value) ∙ z)
    c.in_ok-now.ensures.frames c.in_ok-now.ensures.kept c.in_ok-now.ensures.advanced

pub returns : goal.returns
returns c =
    let P : List Mark → Type 0 = λ ms. (1 ≤ (get_or ms (c.loop-below.now - 1) no_mark).left) ⊎ ((get_or ms (c.loop-below.now - 1) no_mark).below ≡ 0) in
    record { settled = settling-end c.args.rules.now c.args.frames.now c.loop-below.frames c.args.top c.loop-below.now c.loop-below.invariant (subst P c.as_slice.ensures.value (c.in_default.ensures.none refl)) }
