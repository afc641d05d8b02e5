use Rattle.std.proofs.Common.{arith, ◌∙◌}
use Rattle.cls_term.specs.Costs.{cost_of}
use Rattle.cls_enum.proofs.Planning.{book_of-push, AllReady-push}
use Rattle.cls_enum.proofs.plan.plans.Goals as goal

pub loop-node-preserved : goal.loop-node-preserved
loop-node-preserved g c =
    let b = g.B.RuleBook.book c.args.book.now in
    let cost = cost_of c.args.costs.now in
    let ps = c.in_ok-node_plans.field-0.items in
    record {
      made = rw (c.in_ok-push.ensures.items, c.new.ensures) (book_of-push c.loop-node.plans.items ps b c.loop-node.node (omega (arith, c.loop-node-test.true, c.count-node-end.ensures.count)) c.loop-node.invariant.made (c.in_ok-node_plans.ensures.rules ∙ c.rules.ensures.rules));
      ready = λ s. rw (c.in_ok-push.ensures.items, c.new.ensures) (AllReady-push b cost s c.loop-node.plans.items ps (c.loop-node.invariant.ready s) (c.in_ok-node_plans.ensures.ready b s));
    }
