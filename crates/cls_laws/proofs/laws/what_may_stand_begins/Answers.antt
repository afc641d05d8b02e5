use Rattle.cls_laws.proofs.Beginnings.{what_may_stand_begins}
use Rattle.cls_laws.proofs.laws.what_may_stand_begins.Goals as goal

pub returns : goal.returns
returns c = what_may_stand_begins
