use Rattle.cls_path.proofs.PathLaws.{below_is_transitive}
use Rattle.cls_path.proofs.laws.below_is_transitive.Goals as goal

pub returns : goal.returns
returns c = below_is_transitive
