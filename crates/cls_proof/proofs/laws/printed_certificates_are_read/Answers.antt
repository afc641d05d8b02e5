use Rattle.cls_proof.proofs.PrintedCertificates.{printed_read}
use Rattle.cls_proof.proofs.laws.printed_certificates_are_read.Goals as goal

pub returns : goal.returns
returns c = printed_read
