use Rattle.cls_page_tests.proofs.HandSteps.{AllWithin-at}
use Rattle.cls_page_tests.proofs.hand_book.HandBookRuleBook.rules.Goals as goal

pub returns-clause-within : goal.returns-clause-within
returns-clause-within c = AllWithin-at _ c.args.self.now.nodes.items c.args.i c.args.self.now.within
