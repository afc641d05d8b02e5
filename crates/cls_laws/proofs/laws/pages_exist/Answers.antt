use Rattle.cls_laws.proofs.Known.{pages_exist}
use Rattle.cls_laws.proofs.laws.pages_exist.Goals as goal

pub returns : goal.returns
returns c = pages_exist
