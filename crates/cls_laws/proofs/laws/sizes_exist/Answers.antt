use Rattle.cls_laws.proofs.Known.{sizes_exist}
use Rattle.cls_laws.proofs.laws.sizes_exist.Goals as goal

pub returns : goal.returns
returns c = sizes_exist
