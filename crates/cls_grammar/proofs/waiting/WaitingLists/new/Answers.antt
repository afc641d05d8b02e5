use Rattle.std.proofs.Common.{◌∙◌}
use Rattle.cls_grammar.specs.WaitingLists.{lists_among}
use Rattle.cls_grammar.proofs.Waits.{lists-none}
use Rattle.cls_grammar.proofs.waiting.WaitingLists.new.Goals as goal

pub returns : goal.returns
returns c = (λ t. lists_among (c.new.ensures.items t) (c.in_ok-among.ensures.items_if_clones_equal (λ y e. e) t)) ∙ lists-none c.args.count
