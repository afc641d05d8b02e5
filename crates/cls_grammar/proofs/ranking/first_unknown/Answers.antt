use Rattle.cls_grammar.proofs.ranking.first_unknown.Goals as goal
use Rattle.cls_grammar.proofs.Climbing.{all-front, get-read, node-at}

pub is_known-requires : goal.is_known-requires
is_known-requires c = node-at _ c.args.nodes.now c.loop-place.place c.requires.nodes c.loop-place-test.true

pub returns-then-not-is_known-clause-place : goal.returns-then-not-is_known-clause-place
returns-then-not-is_known-clause-place c = get-read c.args.nodes.now c.loop-place.place c.loop-place-test.true

pub loop-place-preserved : goal.loop-place-preserved
loop-place-preserved c = all-front c.args.ranks.now c.args.height c.loop-place.place c.args.nodes.now c.loop-place-test.true c.loop-place.invariant (c.is_known.ensures.0 c.if-not-is_known.false)
