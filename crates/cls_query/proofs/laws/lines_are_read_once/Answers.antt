use Rattle.cls_query.proofs.QueryErrors.{lines_read_once}
use Rattle.cls_query.proofs.laws.lines_are_read_once.Goals as goal

pub returns : goal.returns
returns c = lines_read_once
