use Rattle.cls_expand.proofs.Between.{rules_have_their_component}
use Rattle.cls_expand.proofs.laws.rules_have_their_component.Goals as goal

pub returns : goal.returns
returns c = rules_have_their_component
