use Rattle.cls_laws.proofs.FedBack.{certificates_accepted}
use Rattle.cls_laws.proofs.laws.printed_certificates_are_accepted.Goals as goal

pub returns : goal.returns
returns c = certificates_accepted c.certificates_decide.ensures
