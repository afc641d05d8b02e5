use Rattle.cls_path.proofs.PathLaws.{derivations_are_decided}
use Rattle.cls_path.proofs.laws.derivations_are_decided.Goals as goal

pub returns : goal.returns
returns c = derivations_are_decided
