use Rattle.std.proofs.Common.{◌+◌, ◌<◌, ◌≤◌, ◌++◌, length, drop, ap, subst, arith}
use Rattle.cls_base.specs.Languages.{rules_at}
use Rattle.cls_grammar.specs.Climbs.{IsKept, node_waits}
use Rattle.cls_grammar.proofs.ranking.Climb.start_node.Goals as goal
use Rattle.cls_grammar.proofs.Climbing.{node-waits-next, node-waits-end}

pub advance-requires : goal.advance-requires
advance-requires g c =
    let book = g.B.RuleBook.book c.args.book.now in
    let rs = rules_at book c.args.node in
    let j = c.loop-rule.rule in
    let todo = c.requires.kept.0 in
    let less : j < length rs = omega (arith, c.loop-rule-test.true, c.len.ensures, c.in-Ok.ensures, ap length c.rules.ensures.rules) in
    (0, node_waits c.args.node (j + 1) (drop (j + 1) rs) ++ todo, subst (λ l. IsKept book 0 0 l c.loop-rule.self) (node-waits-next book c.args.node j rs todo less) (c.loop-rule.invariant todo (c.in_ok-start_leaf.ensures todo c.requires.kept.1)))

pub loop-rule-preserved : goal.loop-rule-preserved
loop-rule-preserved g c = λ todo k.
    let book = g.B.RuleBook.book c.args.book.now in
    let rs = rules_at book c.args.node in
    let j = c.loop-rule.rule in
    let less : j < length rs = omega (arith, c.loop-rule-test.true, c.len.ensures, c.in-Ok.ensures, ap length c.rules.ensures.rules) in
    c.in_ok-advance.ensures 0 (node_waits c.args.node (j + 1) (drop (j + 1) rs) ++ todo) (subst (λ l. IsKept book 0 0 l c.loop-rule.self) (node-waits-next book c.args.node j rs todo less) (c.loop-rule.invariant todo k))

pub returns : goal.returns
returns g c = λ todo k.
    let book = g.B.RuleBook.book c.args.book.now in
    let rs = rules_at book c.args.node in
    let over : length rs ≤ c.loop-rule.rule = omega (arith, c.loop-rule-test.false, c.len.ensures, c.in-Ok.ensures, ap length c.rules.ensures.rules) in
    subst (λ l. IsKept book 0 0 l c.loop-rule.self) (node-waits-end book c.args.node c.loop-rule.rule rs todo over) (c.loop-rule.invariant todo (c.in_ok-start_leaf.ensures todo k))
