use Rattle.cls_expand.proofs.Between.{components_make_the_rules}
use Rattle.cls_expand.proofs.laws.components_make_the_rules.Goals as goal

pub returns : goal.returns
returns c = components_make_the_rules
