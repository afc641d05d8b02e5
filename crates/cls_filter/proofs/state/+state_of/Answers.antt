use Rattle.std.proofs.Common.{arith}
use Rattle.cls_filter.specs.Automata.{state_of}
use Rattle.cls_filter.proofs.Spines.{begun, stepped, ended, shorter}
use Rattle.cls_filter.proofs.state.+state_of.Goals as goal

pub loop-argument-init : goal.loop-argument-init
loop-argument-init t c = record {
  so_far = begun c.args.filter.now c.term.inside.head c.term.inside.args c.as_slice-arguments.result.now c.args.term.now c.leaf_state-state.result c.term.view_is c.as_slice-arguments.ensures c.leaf_state-state.ensures.state;
  small = c.leaf_state-state.ensures.small;
}

pub state_of-of_argument-requires : goal.state_of-of_argument-requires
state_of-of_argument-requires t c =
    let less = shorter c.term.inside.head c.term.inside.args c.as_slice-arguments.result.now c.args.term.now c.loop-argument.argument-index c.argument-item.result c.term.view_is c.as_slice-arguments.ensures c.argument-item.is c.loop-argument-test.true in
    omega (arith, less)

pub loop-argument-preserved : goal.loop-argument-preserved
loop-argument-preserved t c = record {
  so_far = stepped c.args.filter.now c.loop-argument.state c.state_of-of_argument.result c.applied_state-state.result c.as_slice-arguments.result.now c.loop-argument.argument-index c.argument-item.result (state_of c.args.filter.now c.args.term.now) c.argument-item.is c.loop-argument-test.true c.state_of-of_argument.ensures.state c.applied_state-state.ensures.state c.loop-argument.invariant.so_far;
  small = c.applied_state-state.ensures.small;
}

pub returns-clause-state : goal.returns-clause-state
returns-clause-state t c = ended c.args.filter.now c.loop-argument.state c.as_slice-arguments.result.now c.loop-argument.argument-index (state_of c.args.filter.now c.args.term.now) c.loop-argument-test.false c.loop-argument.invariant.so_far
