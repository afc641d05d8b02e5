-- What was read comes to wait as a source.
use Rattle.cls_syntax.proofs.Building.{source_pushed}
use Rattle.cls_syntax.proofs.waiting_stack.put_source.Goals as goal

pub returns : goal.returns
returns g c = λ o l h.
    source_pushed g.T.Tree.tree c.summand.new.stack.items c.push.new.self.items c.in_ok-source.source o l (g.T.Tree.tree c.args.read) c.in_ok-push.ensures.items (c.in_ok-source.ensures o l h)
