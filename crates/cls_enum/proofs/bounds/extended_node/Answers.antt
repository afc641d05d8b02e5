use Rattle.std.proofs.Common.{arith, ◌+◌}
use Rattle.cls_enum.specs.Plans.{rule_of}
use Rattle.cls_enum.proofs.BoundLaws.{ready-at}
use Rattle.cls_enum.proofs.Planning.{map-next, AreReady-push}
use Rattle.cls_enum.proofs.bounds.extended_node.Goals as goal

pub loop-plan-preserved : goal.loop-plan-preserved
loop-plan-preserved c = record {
  rules = rw c.in_ok-push.ensures.items (map-next rule_of rule_of c.loop-plan.new.items c.in_ok-extended_plan.field-0 c.args.plans.now c.loop-plan.plan-index c.plan-item.result (omega (arith, c.loop-plan-test.true)) c.plan-item.is c.loop-plan.invariant.rules c.in_ok-extended_plan.ensures.rule);
  ready = λ b cost w h. rw c.in_ok-push.ensures.items (AreReady-push b cost (c.args.size + 1) c.loop-plan.new.items c.in_ok-extended_plan.field-0 (c.loop-plan.invariant.ready b cost w h) (c.in_ok-extended_plan.ensures.ready b cost w (ready-at b cost c.args.size c.args.plans.now c.loop-plan.plan-index c.plan-item.result h (omega (arith, c.loop-plan-test.true)) c.plan-item.is)));
}
