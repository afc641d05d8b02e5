use Rattle.cls_laws.proofs.Verdicts.{verdicts_exist}
use Rattle.cls_laws.proofs.laws.verdicts_exist.Goals as goal

pub returns : goal.returns
returns c = verdicts_exist
