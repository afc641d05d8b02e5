use Rattle.cls_query.proofs.QueryErrors.{lines_decided}
use Rattle.cls_query.proofs.laws.lines_are_decided.Goals as goal

pub returns : goal.returns
returns c = lines_decided
