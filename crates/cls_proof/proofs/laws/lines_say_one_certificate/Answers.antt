use Rattle.cls_proof.proofs.OneReading.{one_certificate}
use Rattle.cls_proof.proofs.laws.lines_say_one_certificate.Goals as goal

pub returns : goal.returns
returns c = one_certificate
