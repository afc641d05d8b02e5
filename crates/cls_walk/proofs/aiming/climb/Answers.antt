use Rattle.std.proofs.Common.{true, ◌==◌, ◌≡◌, ◌∙◌, ℕ, ap, arith, length, map, sym}
use Rattle.std.proofs.lemmas.Bool.Decides.{nat_tests}
use Rattle.std.proofs.lemmas.List.{length-map}
use Rattle.cls_walk.specs.FrameBegins.{aim_of}
use Rattle.cls_walk.specs.FrameGuides.{least_of}
use Rattle.cls_walk.proofs.FrameAiming.{climb-end, climb-next}
use Rattle.cls_walk.proofs.FrameLevels.{grown-then, same-grown}
use Rattle.cls_walk.proofs.aiming.climb.Goals as goal

none-there : (n : ℕ) → true ≡ (n == 0) → n ≡ 0
none-there n e = grind (arith, nat_tests)

pub returns-then-is_empty-clause-steps : goal.returns-then-is_empty-clause-steps
returns-then-is_empty-clause-steps c = λ book cost g.
    let w = c.loop-pairs.invariant in
    let mid = c.step_on.new.levels in
    climb-end book (least_of c.args.guide) c.args.levels.now c.loop-pairs.levels mid c.loop-pairs._pairs c.args.most (map aim_of mid.made.items) c.in_ok-step_on.ensures.same w.count c.requires.some
    (w.steps book cost g) (c.in_ok-step_on.ensures.made book cost g) (length-map mid.made.items aim_of ∙ sym mid.made.ok.0 ∙ none-there mid.made.len c.if-is_empty.ensures)

pub loop-pairs-preserved : goal.loop-pairs-preserved
loop-pairs-preserved c =
    let w = c.loop-pairs.invariant in
    let old = c.args.levels.now in
    let here = c.loop-pairs.levels in
    let mid = c.step_on.new.levels in
    let new = c.close_level.new.levels in
    let s = c.in_ok-step_on.ensures.same in
    let k = c.in_ok-close_level.ensures in
    record {
      cuts = k.cuts;
      grown = grown-then old here new w.grown (grown-then here mid new (same-grown here mid s) k.grown);
      stacks = k.stacks ∙ s.stacks ∙ w.stacks;
      count = (let a = k.count in let b = ap length s.ends in let d = w.count in omega (arith, a, b, d));
      steps = λ book cost g.
          climb-next book (least_of c.args.guide) old here mid new c.loop-pairs._pairs (map aim_of mid.made.items) s w.count c.requires.some
          (w.steps book cost g) (c.in_ok-step_on.ensures.made book cost g) k.last;
    }

pub returns-clause-steps : goal.returns-clause-steps
returns-clause-steps c = λ book cost g q l. c.loop-pairs.invariant.steps book cost g q (let t = c.loop-pairs-test.false in omega (arith, t, l))
