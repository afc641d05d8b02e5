use Rattle.cls_query.proofs.ChangeLaws.{errors_determined}
use Rattle.cls_query.proofs.laws.change_errors_are_determined.Goals as goal

pub returns : goal.returns
returns c = errors_determined
