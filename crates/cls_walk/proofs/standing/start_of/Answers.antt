use Rattle.std.proofs.Common.{◌≡◌, ℕ, ◌≤◌, ◌-◌, get_or, subst, arith}
use Rattle.cls_walk.specs.FrameHeaps.{no_mark}
use Rattle.cls_walk.proofs.FrameHeaps.{mark-first, start-bounds, start-places}
use Rattle.cls_walk.proofs.standing.start_of.Goals as goal

pub returns-then-top-lt2-clause-bounds : goal.returns-then-top-lt2-clause-bounds
returns-then-top-lt2-clause-bounds c = λ end h.
    let ms = c.args.marks.now in
    let t = c.requires.some in
    let w = c.requires.within in
    let s = c.if-top-lt2.true in
    let e : 0 ≡ c.args.top - 1 = omega (arith, t, s) in
    let P : ℕ → Type 0 = λ k. (get_or ms k no_mark).last ≤ end in
    (omega arith, subst P e (mark-first ms end (omega (arith, t, w)) h))

pub returns-clause-bounds : goal.returns-clause-bounds
returns-clause-bounds c = λ end h. start-bounds c.args.marks.now c.args.top end (let s = c.if-top-lt2.false in omega (arith, s)) c.requires.within h

pub returns-clause-places : goal.returns-clause-places
returns-clause-places c = λ ps. start-places c.args.marks.now c.args.top ps (let s = c.if-top-lt2.false in omega (arith, s)) c.requires.within
