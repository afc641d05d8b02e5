use Rattle.std.proofs.Common.{List, arith, ◌+◌, ◌∙◌, ap, subst, sym}
use Rattle.cls_enum.specs.Plans.{rules_of, AreReady}
use Rattle.cls_enum.specs.declared.plan.Plan.{Plan}
use Rattle.cls_enum.proofs.StateSteps.{AllReady-at}
use Rattle.cls_enum.proofs.Planning.{map-next, AllReady-push}
use Rattle.cls_enum.proofs.bounds.extended.Goals as goal

pub loop-node-preserved : goal.loop-node-preserved
loop-node-preserved c =
    let ps = c.in_ok-node_plans.node_plans.items in
    record {
      made = rw (c.in_ok-push.ensures.items, c.new.ensures) (map-next rules_of rules_of c.loop-node.new.items ps c.args.plans.now c.loop-node.node-index c.node-item.result (omega (arith, c.loop-node-test.true)) c.node-item.is c.loop-node.invariant.made (c.in_ok-node_plans.ensures.rules ∙ ap rules_of c.as_slice.ensures));
      ready = λ b cost w h. rw (c.in_ok-push.ensures.items, c.new.ensures) (AllReady-push b cost (c.args.size + 1) c.loop-node.new.items ps (c.loop-node.invariant.ready b cost w h)
          (c.in_ok-node_plans.ensures.ready b cost w (subst (λ (x : List Plan). AreReady b cost c.args.size x) (sym c.as_slice.ensures) (AllReady-at b cost c.args.size c.args.plans.now c.loop-node.node-index c.node-item.result h (omega (arith, c.loop-node-test.true)) c.node-item.is))));
    }
