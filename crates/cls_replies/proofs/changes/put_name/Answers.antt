use Rattle.std.proofs.Common.{◌∙◌}
use Rattle.cls_replies.proofs.Changing.{cut_back, with_new}
use Rattle.cls_replies.proofs.changes.put_name.Goals as goal

pub returns-in-Ok-clause-components : goal.returns-in-Ok-clause-components
returns-in-Ok-clause-components c = c.in_ok-intern.ensures.table ∙ with_new c.args.components.now c.args.name.now c.requires

pub returns-in-Err-clause-components_stay : goal.returns-in-Err-clause-components_stay
returns-in-Err-clause-components_stay c =
    c.cut.ensures.kept
    ∙ cut_back c.args.components.now c.intern.new.self c.args.name.now c.len-count.result c.len-count.ensures.count (c.in_ok-intern.ensures.table ∙ with_new c.args.components.now c.args.name.now c.requires)
