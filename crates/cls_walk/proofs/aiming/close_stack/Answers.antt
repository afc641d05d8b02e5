use Rattle.std.proofs.Common.{ℕ, List, [], ◌∷◌, ap, arith, length, length-append, subst, sym}
use Rattle.cls_walk.specs.FrameLevels.{AreCuts}
use Rattle.cls_walk.proofs.FrameLevels.{are-push, column-push, stack-closed}
use Rattle.cls_walk.proofs.aiming.close_stack.Goals as goal

pub loop-between-preserved : goal.loop-between-preserved
loop-between-preserved c =
    let w = c.loop-between.invariant in
    let e = c.in_ok-push.ensures.items in
    record {
      cuts = subst (λ (zs : List ℕ). AreCuts 0 c.args.first zs) (sym e) (are-push 0 c.args.first c.args.first c.loop-between.stacks.items w.cuts (omega arith));
      grown = column-push c.args.stacks.now.items c.loop-between.stacks.items (c.args.first ∷ []) c.push.new.self.items w.grown e;
      count = (let a = w.count in let b = ap length e in omega (arith, a, b, length-append c.loop-between.stacks.items (c.args.first ∷ [])));
    }

pub returns-clause-cuts : goal.returns-clause-cuts
returns-clause-cuts c =
    subst (λ (zs : List ℕ). AreCuts 0 c.args.end zs) (sym c.in_ok-push-2.ensures.items) (are-push 0 c.args.first c.args.end c.loop-between.stacks.items c.loop-between.invariant.cuts c.requires.rises)

pub returns-clause-last : goal.returns-clause-last
returns-clause-last c = λ levels e.
    let w = c.loop-between.invariant in
    let t = c.loop-between-test.false in
    let u = c.requires.new in
    let n = w.count in
    let m = c.len-between.ensures in
    let b = c.loop-between.auto._between-end in
    stack-closed levels c.loop-between.stacks.items c.push-2.new.self.items c.args.stack c.args.first c.args.end w.cuts (let f = b (omega (arith, m, u)) in omega (arith, n, t, f)) c.in_ok-push-2.ensures.items e
