use Rattle.cls_laws.proofs.Known.{certificates_exist}
use Rattle.cls_laws.proofs.laws.certificates_exist.Goals as goal

pub returns : goal.returns
returns c = certificates_exist
