use Rattle.std.proofs.Common.{◌≡◌, ◌∙◌, ℕ, ◌-◌, List, take, drop, get_or, sym, arith, ap}
use Rattle.cls_walk.specs.FrameLevels.{all_levels, cut_start}
use Rattle.cls_walk.proofs.FrameLevels.{cut-part, stack-past}
use Rattle.cls_walk.proofs.aims.Levels.span.Goals as goal

pub returns-then-stack-len-clause-levels : goal.returns-then-stack-len-clause-levels
returns-then-stack-len-clause-levels c =
    let t = c.if-stack-len.true in
    let e = c.len.ensures in
    stack-past (all_levels c.args.self.now) c.args.self.now.stacks.items c.args.stack (omega (arith, t, e))

pub returns-clause-levels : goal.returns-clause-levels
returns-clause-levels c =
    let ls = all_levels c.args.self.now in
    let es = c.args.self.now.stacks.items in
    let t = c.if-stack-len.false in
    let n = c.len.ensures in
    let v = c.as_slice.ensures.value in
    let f : c.span_at.result.first ≡ cut_start es c.args.stack = c.span_at.ensures.first ∙ ap (λ (xs : List ℕ). cut_start xs c.args.stack) v in
    let e : c.span_at.result.end ≡ get_or es c.args.stack 0 = c.span_at.ensures.end ∙ ap (λ (xs : List ℕ). get_or xs c.args.stack 0) v in
    cut-part ls es c.args.stack (omega (arith, t, n)) ∙ sym (λ i. take (e i - f i) (drop (f i) ls))
