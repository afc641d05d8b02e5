use Rattle.cls_query.proofs.ChangeLaws.{read_once}
use Rattle.cls_query.proofs.laws.changes_are_read_once.Goals as goal

pub returns : goal.returns
returns c = read_once
