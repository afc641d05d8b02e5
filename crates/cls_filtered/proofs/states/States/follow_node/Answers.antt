use Rattle.std.proofs.Common.{arith}
use Rattle.cls_filtered.proofs.Following.{rules-begun, steps-more, steps-whole}
use Rattle.cls_filtered.proofs.states.States.follow_node.Goals as goal

pub loop-step-init : goal.loop-step-init
loop-step-init c = rules-begun c.args.filter.now c.args.book.now c.args.node c.args.self.now

pub follow-requires : goal.follow-requires
follow-requires c = omega (arith, c.requires.node, c.requires.sized, c.loop-step.invariant.onward.sized)

pub loop-step-preserved : goal.loop-step-preserved
loop-step-preserved c =
    steps-more c.args.filter.now c.args.book.now c.args.node c.steps-steps.result.now c.loop-step.step-index _ c.args.self.now c.loop-step.self c.follow.new.self c.loop-step-test.true c.steps-steps.ensures c.loop-step.invariant c.in_ok-follow.ensures

pub returns : goal.returns
returns c =
    steps-whole c.args.filter.now c.args.book.now c.args.node c.steps-steps.result.now c.loop-step.step-index c.args.self.now c.loop-step.self c.loop-step-test.false c.steps-steps.ensures c.loop-step.invariant
