use Rattle.cls_laws.proofs.Closures.{closures_exist}
use Rattle.cls_laws.proofs.laws.closures_exist.Goals as goal

pub returns : goal.returns
returns c = closures_exist
