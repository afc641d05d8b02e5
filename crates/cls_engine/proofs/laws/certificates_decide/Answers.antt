use Rattle.cls_engine.proofs.Certifying.{certificates_decide}
use Rattle.cls_engine.proofs.laws.certificates_decide.Goals as goal

pub returns : goal.returns
returns c = certificates_decide c.made_are_accepted.ensures
