use Rattle.cls_laws.proofs.Known.{audits_exist}
use Rattle.cls_laws.proofs.laws.audits_exist.Goals as goal

pub returns : goal.returns
returns c = audits_exist
