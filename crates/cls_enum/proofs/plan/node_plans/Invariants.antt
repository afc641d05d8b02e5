use Rattle.std.proofs.Common.{◌≡◌, ℕ, List, take}
use Rattle.cls_base.specs.declared.rule.Rule.{Rule}
use Rattle.cls_term.specs.Costs.{cost_of}
use Rattle.cls_enum.specs.Plans.{AreReady, rules_of}
use Rattle.cls_enum.proofs.plan.node_plans.Given as goal

abbrev pub invariant-loop-place : goal.invariant-loop-place
invariant-loop-place l = record {
  rules : rules_of l.plans.items ≡ take l.place l.rules;
  ready : (b : List (List (Rule ℕ))) (s : ℕ) → AreReady b (cost_of l.costs) s l.plans.items;
}
