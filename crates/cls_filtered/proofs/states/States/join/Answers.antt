use Rattle.std.proofs.Common.{◌≡◌, ℕ, subst, arith}
use Rattle.cls_base.specs.Limits.{max_states}
use Rattle.cls_filtered.specs.States.{Joins}
use Rattle.cls_filtered.proofs.Following.{joins-begun, joins-more}
use Rattle.cls_filtered.proofs.states.States.join.Goals as goal

pub loop-state-init : goal.loop-state-init
loop-state-init c = joins-begun c.args.filter.now c.args.node c.args.left.0 c.args.left.1 c.args.right c.args.self.now

pub join_at-requires-clause-node : goal.join_at-requires-clause-node
join_at-requires-clause-node c = omega (arith, c.requires.node, c.loop-state.invariant.onward.sized)

pub loop-state-preserved : goal.loop-state-preserved
loop-state-preserved c =
    joins-more c.args.filter.now c.args.node c.args.left.0 c.args.left.1 c.args.right c.loop-state.state c.args.self.now c.loop-state.self c.join_at.new.self c.loop-state.invariant c.in_ok-join_at.ensures

pub returns : goal.returns
returns c =
    let all : c.loop-state.state ≡ max_states = omega (arith, c.loop-state-test.false, c.loop-state.auto.state-end) in
    subst (λ (n : ℕ). Joins c.args.filter.now c.args.node c.args.left.0 c.args.left.1 c.args.right n c.args.self.now c.loop-state.self) all c.loop-state.invariant
