use Rattle.cls_callers.proofs.Within.{root-reaches}
use Rattle.cls_callers.proofs.laws.root_reaches_all_closures.Goals as goal

pub returns : goal.returns
returns g c = λ t h. root-reaches g.E.Expand.answers t h
