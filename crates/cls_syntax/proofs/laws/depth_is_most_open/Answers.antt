use Rattle.cls_syntax.proofs.ReadBack.{depth_open}
use Rattle.cls_syntax.proofs.laws.depth_is_most_open.Goals as goal

pub returns : goal.returns
returns c = depth_open
