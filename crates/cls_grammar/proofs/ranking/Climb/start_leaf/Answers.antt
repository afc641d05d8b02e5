-- The rule is one of those that are to begin.
use Rattle.std.proofs.Common.{◌<◌, ◌++◌, length, arith}
use Rattle.cls_base.specs.Languages.{rules_at}
use Rattle.cls_grammar.specs.Climbs.{node_waits}
use Rattle.cls_grammar.proofs.Advances.{kept-ahead}
use Rattle.cls_grammar.proofs.ranking.Climb.start_leaf.Goals as goal

pub advance-requires : goal.advance-requires
advance-requires g c =
    let book = g.B.RuleBook.book c.args.book.now in
    let less : c.in-Some.rule < length (rules_at book c.args.node) = omega (arith, c.in-Some.ensures, c.requires.count) in
    (0, node_waits c.args.node 0 (rules_at book c.args.node) ++ c.requires.kept.0, kept-ahead book c.args.node c.in-Some.rule c.requires.kept.0 c.args.self.now less c.requires.kept.1)

pub returns : goal.returns
returns g c = λ todo k.
    let book = g.B.RuleBook.book c.args.book.now in
    let less : c.in-Some.rule < length (rules_at book c.args.node) = omega (arith, c.in-Some.ensures, c.requires.count) in
    c.in_ok-advance.ensures 0 (node_waits c.args.node 0 (rules_at book c.args.node) ++ todo) (kept-ahead book c.args.node c.in-Some.rule todo c.args.self.now less k)
