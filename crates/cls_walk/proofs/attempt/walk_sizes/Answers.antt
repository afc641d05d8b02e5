use Rattle.std.proofs.Common.{◌≡◌, ◌+◌, List, ℕ, [], Bool, ap, arith, length, subst, ◌∙◌, false}
use Rattle.std.specs.Prelude.{option_copied}
use Rattle.cls_base.specs.Languages.{IsGenerated}
use Rattle.cls_base.specs.Pages.{IsDue}
use Rattle.cls_base.specs.Terms.{Applicative}
use Rattle.cls_term.specs.Costs.{cost_of}
use Rattle.cls_enum.specs.Requests.{request}
use Rattle.cls_walk.specs.PageFronts.{IsDueFront}
use Rattle.cls_walk.proofs.Attempts.{due-codes, front-next, front-start, front-still}
use Rattle.cls_walk.proofs.attempt.walk_sizes.Goals as goal

pub loop-size-init : goal.loop-size-init
loop-size-init c =
    let plan = c.args.plan.now in
    record {
      some = omega arith;
      awaited = c.requires.resting.0;
      code = c.requires.resting.1;
      few = omega (arith, ap (λ (ws : List (List ℕ)). length ws) c.requires.resting.2);
      known = c.requires.known;
      listed = λ book max forms l. ([], c.requires.resting.2, front-start (IsDue (IsGenerated book 0) (request plan.costs.now (option_copied c.args.after) max plan.take)) (cost_of plan.costs.now) plan.positive);
    }

pub returns-then-not-branch-clause-listed : goal.returns-then-not-branch-clause-listed
returns-then-not-branch-clause-listed c = λ book max forms l.
    let plan = c.args.plan.now in
    let r = request plan.costs.now (option_copied c.args.after) max plan.take in
    let s = c.loop-size.size in
    let h = c.loop-size.invariant.listed book max forms l in
    let w = c.in_ok-walk_size.ensures.listed book c.args.last max forms (omega (arith, c.loop-size-test.true)) (omega (arith, c.loop-size-test.true, l)) in
    due-codes book r plan.positive s h.0 c.loop-size.walk c.walk_size.new.walk c.in_ok-walk_size.field-0 c.loop-size.invariant.code h.1 h.2 w c.in_ok-walk_size.ensures.back.full

pub loop-size-preserved : goal.loop-size-preserved
loop-size-preserved c =
    let plan = c.args.plan.now in
    let s = c.loop-size.size in
    record {
      some = omega arith;
      awaited = c.in_ok-walk_size.ensures.back.awaited ∙ c.loop-size.invariant.awaited;
      code = c.in_ok-walk_size.ensures.back.code ∙ c.loop-size.invariant.code;
      few = c.in_ok-walk_size.ensures.back.few c.if-not-branch.false;
      known = c.in_ok-walk_size.ensures.back.remembers c.loop-size.invariant.known;
      listed = λ book max forms l.
          let r = request plan.costs.now (option_copied c.args.after) max plan.take in
          let Due : Applicative → Type 0 = IsDue (IsGenerated book 0) r in
          let h = c.loop-size.invariant.listed book max forms l in
          let w = c.in_ok-walk_size.ensures.listed book c.args.last max forms (omega (arith, c.loop-size-test.true)) (omega (arith, c.loop-size-test.true, l)) in
          let n = front-next Due r.cost plan.positive s h.0 c.loop-size.walk c.walk_size.new.walk c.in_ok-walk_size.field-0 c.loop-size.invariant.code h.1 h.2 w in
          let P : Bool → Type 0 = λ b. IsDueFront Due r.cost (s + 1) (b ≡ false) n.0 in
          (n.0, n.1, front-still Due r.cost plan.positive (s + 1) n.0 (subst P c.if-not-branch.false n.2));
    }

pub returns-clause-listed : goal.returns-clause-listed
returns-clause-listed c = λ book max forms l.
    let plan = c.args.plan.now in
    let r = request plan.costs.now (option_copied c.args.after) max plan.take in
    let s = c.loop-size.size in
    let e : s ≡ c.args.last = omega (arith, c.loop-size-test.false, c.loop-size.auto.size-end, c.loop-size.auto.size, c.requires.some) in
    let h = c.loop-size.invariant.listed book max forms l in
    let P : ℕ → Type 0 = λ k. IsDueFront (IsDue (IsGenerated book 0) r) r.cost k ⊥ h.0 in
    let w = c.in_ok-_going.ensures.listed book c.args.last max forms (omega arith) l in
    due-codes book r plan.positive c.args.last h.0 c.loop-size.walk c.walk_size-2.new.walk c.in_ok-_going._going c.loop-size.invariant.code h.1 (subst P e h.2) w c.in_ok-_going.ensures.back.full
