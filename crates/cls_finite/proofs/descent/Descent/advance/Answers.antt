use Rattle.cls_term.specs.Costs.{cost_of}
use Rattle.cls_finite.specs.declared.sizes.TheConstants.{SIZE_CAP}
use Rattle.cls_finite.proofs.Advancing as advancing
use Rattle.cls_finite.proofs.descent.Descent.advance.Goals as goal

pub rules-rules-requires : goal.rules-rules-requires
rules-rules-requires g c = advancing.node-within SIZE_CAP (cost_of c.args.costs.now) (g.B.RuleBook.book c.args.book.now) c.args.flags.now c.requires.productive c.args.self.now c.requires.kept c.node.result c.node.ensures

pub next-requires : goal.next-requires
next-requires g c = advancing.all-passed SIZE_CAP (cost_of c.args.costs.now) (g.B.RuleBook.book c.args.book.now) c.args.flags.now c.requires.productive c.args.self.now c.requires.kept c.node.result c.node.ensures c.rules-rules.result.now c.rules-rules.ensures.rules

pub close-requires : goal.close-requires
close-requires g c = advancing.top-less SIZE_CAP (cost_of c.args.costs.now) (g.B.RuleBook.book c.args.book.now) c.args.flags.now c.requires.productive c.args.self.now c.requires.kept

pub returns-then-close : goal.returns-then-close
returns-then-close g c = advancing.closes SIZE_CAP (cost_of c.args.costs.now) (g.B.RuleBook.book c.args.book.now) c.args.flags.now c.requires.productive c.args.self.now c.requires.kept c.node.result c.node.ensures c.rules-rules.result.now c.rules-rules.ensures.rules c.in_default.ensures.none c.greatest-size.result c.greatest-size.ensures c.close.new.self c.close.ensures.marks c.if-close.ensures.more

pub returns-in_default : goal.returns-in_default
returns-in_default g c = advancing.ends SIZE_CAP (cost_of c.args.costs.now) (g.B.RuleBook.book c.args.book.now) c.args.flags.now c.requires.productive c.args.self.now c.requires.kept c.node.result c.node.ensures c.rules-rules.result.now c.rules-rules.ensures.rules c.in_default.ensures.none c.greatest-size.result c.greatest-size.ensures c.if-close.ensures.last

pub returns-then-is_open : goal.returns-then-is_open
returns-then-is_open g c = advancing.comes_round SIZE_CAP (cost_of c.args.costs.now) (g.B.RuleBook.book c.args.book.now) c.args.flags.now c.requires.productive c.args.self.now c.requires.kept c.node.result c.node.ensures c.rules-rules.result.now c.rules-rules.ensures.rules c.in-Some.step c.in-Some.node c.in-Some.ensures.goal c.in-Some.ensures.next c.requires.costs (c.is_open.ensures.0 c.if-is_open.true) c.take.new.self c.in_ok-take.ensures

pub open-requires : goal.open-requires
open-requires g c = advancing.next-less SIZE_CAP (cost_of c.args.costs.now) (g.B.RuleBook.book c.args.book.now) c.args.flags.now c.requires.productive c.args.self.now c.requires.kept c.node.result c.node.ensures c.rules-rules.result.now c.rules-rules.ensures.rules c.in-Some.step c.in-Some.node c.in-Some.ensures.goal c.in-Some.ensures.next c.rules-rules.ensures.within

pub returns : goal.returns
returns g c = advancing.goes SIZE_CAP (cost_of c.args.costs.now) (g.B.RuleBook.book c.args.book.now) c.args.flags.now c.requires.productive c.args.self.now c.requires.kept c.node.result c.node.ensures c.rules-rules.result.now c.rules-rules.ensures.rules c.in-Some.step c.in-Some.node c.in-Some.ensures.goal c.in-Some.ensures.next c.rules-rules.ensures.within (λ e. let t = c.is_open.ensures.1 e in let f = c.if-is_open.false in cc) c.open.new.self c.in_ok-open.ensures
