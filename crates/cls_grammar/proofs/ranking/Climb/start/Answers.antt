use Rattle.std.proofs.Common.{◌+◌, ◌<◌, ◌≤◌, length, drop, subst, arith}
use Rattle.cls_grammar.specs.Climbs.{IsKept, all_waits}
use Rattle.cls_grammar.proofs.ranking.Climb.start.Goals as goal
use Rattle.cls_grammar.proofs.Climbing.{all-waits-next, all-waits-end}

pub start_node-requires-clause-kept : goal.start_node-requires-clause-kept
start_node-requires-clause-kept g c =
    let book = g.B.RuleBook.book c.args.book.now in
    let i = c.loop-node.node in
    let less : i < length book = omega (arith, c.loop-node-test.true, c.count-node-end.ensures.count) in
    (all_waits (i + 1) (drop (i + 1) book), subst (λ l. IsKept book 0 0 l c.loop-node.self) (all-waits-next book i book less) c.loop-node.invariant)

pub loop-node-preserved : goal.loop-node-preserved
loop-node-preserved g c =
    let book = g.B.RuleBook.book c.args.book.now in
    let i = c.loop-node.node in
    let less : i < length book = omega (arith, c.loop-node-test.true, c.count-node-end.ensures.count) in
    c.in_ok-start_node.ensures (all_waits (i + 1) (drop (i + 1) book)) (subst (λ l. IsKept book 0 0 l c.loop-node.self) (all-waits-next book i book less) c.loop-node.invariant)

pub returns : goal.returns
returns g c =
    let book = g.B.RuleBook.book c.args.book.now in
    let over : length book ≤ c.loop-node.node = omega (arith, c.loop-node-test.false, c.count-node-end.ensures.count) in
    subst (λ l. IsKept book 0 0 l c.loop-node.self) (all-waits-end book c.loop-node.node book over) c.loop-node.invariant
