use Rattle.std.proofs.Common.{[], set, ap, ◌∙◌}
use Rattle.cls_grammar.proofs.Waits.{lists-take}
use Rattle.cls_grammar.proofs.waiting.WaitingLists.take.Goals as goal

pub returns-clause-after : goal.returns-clause-after
returns-clause-after c = lists-take c.self.inside.links.items c.self.inside.among.items c.args.node ∙ ap (λ ws. set ws c.args.node []) c.self.view_is
