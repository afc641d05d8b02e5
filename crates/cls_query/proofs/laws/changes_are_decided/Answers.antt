use Rattle.cls_query.proofs.ChangeLaws.{decided}
use Rattle.cls_query.proofs.laws.changes_are_decided.Goals as goal

pub returns : goal.returns
returns c = decided
