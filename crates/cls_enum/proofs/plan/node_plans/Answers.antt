use Rattle.cls_base.specs.Columns.{rule_of as referred_rule}
use Rattle.cls_term.specs.Costs.{cost_of}
use Rattle.cls_enum.specs.Plans.{rule_of}
use Rattle.cls_enum.proofs.Planning.{map-taken, AreReady-push}
use Rattle.cls_enum.proofs.plan.node_plans.Goals as goal

pub loop-place-preserved : goal.loop-place-preserved
loop-place-preserved c = record {
  rules = rw c.in_ok-push.ensures.items (map-taken rule_of c.loop-place.plans.items c.in_ok-rule_plan.field-0 c.args.rules.now c.loop-place.place (referred_rule c.get-rule.result) c.get-rule.ensures c.loop-place.invariant.rules c.in_ok-rule_plan.ensures.rule);
  ready = λ b s. rw c.in_ok-push.ensures.items (AreReady-push b (cost_of c.args.costs.now) s c.loop-place.plans.items c.in_ok-rule_plan.field-0 (c.loop-place.invariant.ready b s) (c.in_ok-rule_plan.ensures.ready b s));
}
