use Rattle.cls_query.proofs.QueryErrors.{errors_determined}
use Rattle.cls_query.proofs.laws.errors_are_determined.Goals as goal

pub returns : goal.returns
returns c = errors_determined
