use Rattle.cls_expand.proofs.Following.{answers_follow_paths}
use Rattle.cls_expand.proofs.laws.answers_follow_paths.Goals as goal

pub returns : goal.returns
returns c = answers_follow_paths
