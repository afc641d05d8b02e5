use Rattle.cls_expand.proofs.Between.{rules_are_by_components}
use Rattle.cls_expand.proofs.laws.rules_are_by_components.Goals as goal

pub returns : goal.returns
returns c = rules_are_by_components
