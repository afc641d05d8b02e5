use Rattle.cls_proof.proofs.ReadCertificates.{certificates_read_again}
use Rattle.cls_proof.proofs.laws.read_certificates_are_read_again.Goals as goal

pub returns : goal.returns
returns c = certificates_read_again
