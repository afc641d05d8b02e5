use Rattle.std.proofs.Common.{ℕ, ◌≤◌, get_or, subst, arith}
use Rattle.cls_walk.proofs.FrameLevels.{cut-bounds, start-next}
use Rattle.cls_walk.proofs.aims.span_at.Goals as goal

pub returns-then-place-eq0-clause-bounds : goal.returns-then-place-eq0-clause-bounds
returns-then-place-eq0-clause-bounds c = λ end h.
    let l = c.requires in
    let t = c.if-place-eq0.true in
    cut-bounds end c.args.ends.now 0 (omega (arith, l, t)) h

pub returns-clause-bounds : goal.returns-clause-bounds
returns-clause-bounds c = λ end h.
    let es = c.args.ends.now in
    let i = c.args.place in
    let P : ℕ → Type 0 = λ k. (k ≤ get_or es i 0) × (get_or es i 0 ≤ end) in
    subst P (start-next es i (let t = c.if-place-eq0.false in omega (arith, t))) (cut-bounds end es i c.requires h)
