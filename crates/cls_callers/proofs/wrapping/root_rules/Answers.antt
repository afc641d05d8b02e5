use Rattle.std.proofs.Common.{◌≡◌, ◌+◌, ◌∙◌, [], ◌∷◌, ◌++◌, length, take, length-take-le, sym, ap, arith}
use Rattle.cls_base.specs.declared.rule.Rule.TheVariants.{Head}
use Rattle.cls_base.proofs.Lists.{take_next}
use Rattle.cls_callers.specs.declared.goal.AskGoal.TheVariants.{Of}
use Rattle.cls_callers.specs.Asking.{asked_rules}
use Rattle.cls_callers.proofs.Wrapped.{asked-more}
use Rattle.cls_callers.proofs.wrapping.root_rules.Goals as goal

pub loop-goal-preserved : goal.loop-goal-preserved
loop-goal-preserved g c =
    let gs = c.args.goals.now in
    let i = c.loop-goal.goal-index in
    let x = c.goal-item.result in
    let before = c.loop-goal.invariant in
    let cut : take (i + 1) gs ≡ take i gs ++ x ∷ [] =
    take_next gs i x (omega (arith, c.loop-goal-test.true)) ∙ ap (λ (y : g.row.G.Denot). take i gs ++ y ∷ []) (sym c.goal-item.is) in
    let number : c.loop-goal.number ≡ 1 + length (take i gs) = omega (arith, before.next, length-take-le i gs (omega (arith, c.loop-goal-test.true))) in
    let args : c.push.new.self.items ≡ Of x ∷ [] = c.in_ok-push.ensures.items ∙ (λ j. before.none j ++ Of (c.in_ok-copy.ensures.same j) ∷ []) in
    record {
      made = c.in_ok-push_head.ensures.ok
          ∙ ((λ j. before.made j ++ Head (number j) (args j) ∷ [])
          ∙ (sym (asked-more 1 (take i gs) x) ∙ sym (ap (asked_rules 1) cut)));
      none = c.in_ok-push_head.ensures.taken;
      next = omega (arith, before.next);
    }
