use Rattle.cls_callers.proofs.Unions.{root-adds}
use Rattle.cls_callers.proofs.laws.root_adds_itself.Goals as goal

pub returns : goal.returns
returns g c = λ t goals rules. root-adds g.E.Expand.answers t goals rules
