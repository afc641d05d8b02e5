use Rattle.cls_filter.proofs.LineLaws.{others_keep_their_states}
use Rattle.cls_filter.proofs.laws.others_keep_their_states.Goals as goal

pub returns : goal.returns
returns c = others_keep_their_states
