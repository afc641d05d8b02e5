use Rattle.cls_filter.proofs.LineLaws.{named_states_accept}
use Rattle.cls_filter.proofs.laws.named_states_accept.Goals as goal

pub returns : goal.returns
returns c = named_states_accept
