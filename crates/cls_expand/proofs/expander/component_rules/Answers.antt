use Rattle.cls_expand.proofs.Places.{if_ok_map, parts, by_between}
use Rattle.cls_expand.proofs.expander.component_rules.Goals as goal

pub returns : goal.returns
returns c =
    let p = parts c.args.goal.now c.paths.result.now c.is_empty.result c.paths.ensures c.is_empty.ensures c.if-is_empty.false in
    if_ok_map c.rules_between.result _ _ (λ a h. by_between c.args.lib.now c.args.goal.now c.args.x a p.0 p.1 p.2 h) c.rules_between.ensures
