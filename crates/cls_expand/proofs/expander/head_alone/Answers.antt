use Rattle.cls_expand.proofs.Fresh.{only_rule}
use Rattle.cls_expand.proofs.expander.head_alone.Goals as goal

pub returns : goal.returns
returns c = only_rule c.new-rules.result c.push_head.new.self c.args.x c.new.result.items c.new-rules.ensures c.new.ensures.items c.in_ok-push_head.ensures.ok
