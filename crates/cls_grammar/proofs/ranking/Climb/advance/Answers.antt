use Rattle.std.proofs.Common.{◌<◌, length, refl, arith}
use Rattle.cls_grammar.proofs.Advances.{rule-less, next-nodes, next-within, next-front, argument-less, kept-reached, kept-waits}
use Rattle.cls_base.specs.Columns.{rule_of}
use Rattle.cls_grammar.proofs.ranking.Climb.advance.Goals as goal
use Rattle.cls_grammar.proofs.Climbing.{node-less, rank-small, kept-known}

pub has_rank-requires : goal.has_rank-requires
has_rank-requires g c = let k = c.requires in omega (arith, k.2.sized, node-less (g.B.RuleBook.book c.args.book.now) k.0 c.args.height c.args.waiting k.1 c.args.self.now k.2)

pub returns-then-has_rank : goal.returns-then-has_rank
returns-then-has_rank g c = λ done todo k.
    let u = c.has_rank.ensures.0 c.if-has_rank.true in
    kept-known (g.B.RuleBook.book c.args.book.now) done c.args.height c.args.waiting todo c.args.self.now k u.0 u.1

pub rules-requires : goal.rules-requires
rules-requires g c = let k = c.requires in node-less (g.B.RuleBook.book c.args.book.now) k.0 c.args.height c.args.waiting k.1 c.args.self.now k.2

pub get-rule-requires : goal.get-rule-requires
get-rule-requires g c = let k = c.requires in rule-less (g.B.RuleBook.book c.args.book.now) k.0 c.args.height c.args.waiting k.1 c.args.self.now k.2 c.rules.result.now c.rules.ensures.rules

pub next_unknown-requires-clause-nodes : goal.next_unknown-requires-clause-nodes
next_unknown-requires-clause-nodes g c = let k = c.requires in next-nodes (g.B.RuleBook.book c.args.book.now) k.0 c.args.height c.args.waiting k.1 c.args.self.now k.2 c.rules.result.now _ c.rules.ensures.rules c.get-rule.ensures c.rules.ensures.within

pub next_unknown-requires-clause-within : goal.next_unknown-requires-clause-within
next_unknown-requires-clause-within g c = let k = c.requires in next-within (g.B.RuleBook.book c.args.book.now) k.0 c.args.height c.args.waiting k.1 c.args.self.now k.2 c.rules.result.now _ c.rules.ensures.rules c.get-rule.ensures

pub next_unknown-requires-clause-front : goal.next_unknown-requires-clause-front
next_unknown-requires-clause-front g c = let k = c.requires in next-front (g.B.RuleBook.book c.args.book.now) k.0 c.args.height c.args.waiting k.1 c.args.self.now k.2 c.rules.result.now _ c.rules.ensures.rules c.get-rule.ensures

pub reach-requires-clause-within : goal.reach-requires-clause-within
reach-requires-clause-within g c = let k = c.requires in omega (arith, k.2.sized, node-less (g.B.RuleBook.book c.args.book.now) k.0 c.args.height c.args.waiting k.1 c.args.self.now k.2)

pub reach-requires-clause-small : goal.reach-requires-clause-small
reach-requires-clause-small g c = let k = c.requires in rank-small (g.B.RuleBook.book c.args.book.now) k.0 c.args.height c.args.waiting k.1 c.args.self.now k.2 c.args.waiting.node

pub wait-requires : goal.wait-requires
wait-requires g c = let k = c.requires in argument-less (g.B.RuleBook.book c.args.book.now) k.0 c.args.height c.args.waiting k.1 c.args.self.now k.2 c.rules.result.now (rule_of c.get-rule.result) c.rules.ensures.rules c.get-rule.ensures c.in-Some.argument c.in-Some.node c.rules.ensures.within c.in-Some.ensures.place

pub returns-in_default : goal.returns-in_default
returns-in_default g c = λ done todo k.
    let book = g.B.RuleBook.book c.args.book.now in
    let less : c.args.waiting.node < length c.args.self.now.ranks = omega (arith, k.sized, node-less book done c.args.height c.args.waiting todo c.args.self.now k) in
    kept-reached book done c.args.height c.args.waiting todo c.args.self.now k c.rules.result.now (rule_of c.get-rule.result) c.rules.ensures.rules c.get-rule.ensures c.in_default.ensures.none less c.reach.new.self c.in_ok-reach.ensures.known c.in_ok-reach.ensures.new

pub returns : goal.returns
returns g c = λ done todo k.
    let book = g.B.RuleBook.book c.args.book.now in
    let s = c.args.self.now in
    let less = argument-less book done c.args.height c.args.waiting todo s k c.rules.result.now (rule_of c.get-rule.result) c.rules.ensures.rules c.get-rule.ensures c.in-Some.argument c.in-Some.node c.rules.ensures.within c.in-Some.ensures.place in
    kept-waits book done c.args.height c.args.waiting todo s k c.rules.result.now (rule_of c.get-rule.result) c.rules.ensures.rules c.get-rule.ensures c.in-Some.argument c.in-Some.node (record { node = c.args.waiting.node; rule = c.args.waiting.rule; argument = c.in-Ok.argument }) refl refl c.in-Ok.ensures.1 c.in-Some.ensures.place c.in-Some.ensures.before c.in-Some.ensures.unknown less c.wait.new.self c.in_ok-wait.ensures
