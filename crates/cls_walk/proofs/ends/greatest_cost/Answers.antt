use Rattle.std.proofs.Common.{ℕ, List, arith, subst}
use Rattle.cls_base.proofs.Lists.{take_whole}
use Rattle.cls_base.specs.declared.rule.Rule.{Rule}
use Rattle.cls_base.specs.Columns.{rule_of}
use Rattle.cls_term.specs.Costs.{cost_of}
use Rattle.cls_walk.specs.Ends.{CostAtMost}
use Rattle.cls_walk.proofs.Endings.{costs-next}
use Rattle.cls_walk.proofs.ends.greatest_cost.Goals as goal

pub loop-place-preserved : goal.loop-place-preserved
loop-place-preserved c = record {
  kept = omega (arith, c.max-best.ensures, c.loop-place.invariant.kept);
  most = costs-next (cost_of c.args.costs.now) c.args.rules.now c.loop-place.place c.loop-place.best c.head_cost.result c.max-best.result (rule_of c.get-rule.result)
      c.get-rule.ensures c.loop-place.invariant.most c.head_cost.ensures (omega (arith, c.max-best.ensures)) (omega (arith, c.max-best.ensures));
}

pub returns-clause-most : goal.returns-clause-most
returns-clause-most c =
    let P : List (Rule ℕ) → Type 0 = λ rules. CostAtMost (cost_of c.args.costs.now) c.loop-place.best rules in
    subst P (take_whole c.args.rules.now c.loop-place.place (omega (arith, c.loop-place-test.false))) c.loop-place.invariant.most
