use Rattle.cls_laws.proofs.Closures.{histories_exist}
use Rattle.cls_laws.proofs.laws.histories_exist.Goals as goal

pub returns : goal.returns
returns c = histories_exist
