use Rattle.std.proofs.Common.{arith}
use Rattle.cls_filtered.proofs.Following.{applies-begun, applies-more, follows-applied}
use Rattle.cls_filtered.proofs.states.States.apply.Goals as goal

pub loop-state-init : goal.loop-state-init
loop-state-init c = applies-begun c.args.filter.now c.args.node c.args.left c.args.right c.args.self.now

pub apply_at-requires-clause-node : goal.apply_at-requires-clause-node
apply_at-requires-clause-node c = omega (arith, c.requires, c.loop-state.invariant.onward.sized)

pub loop-state-preserved : goal.loop-state-preserved
loop-state-preserved c =
    applies-more c.args.filter.now c.args.node c.args.left c.args.right c.loop-state.state c.args.self.now c.loop-state.self c.apply_at.new.self c.loop-state.invariant c.in_ok-apply_at.ensures

pub returns : goal.returns
returns c =
    follows-applied c.args.filter.now c.args.node c.args.left c.args.right c.loop-state.state c.args.self.now c.loop-state.self (omega (arith, c.loop-state-test.false)) c.loop-state.invariant
