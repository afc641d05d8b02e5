use Rattle.cls_laws.proofs.Known.{types_have_closures}
use Rattle.cls_laws.proofs.laws.types_have_closures.Goals as goal

pub returns : goal.returns
returns c = types_have_closures
