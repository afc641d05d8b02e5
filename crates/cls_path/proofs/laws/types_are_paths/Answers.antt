use Rattle.cls_path.proofs.PathLaws.{types_are_paths}
use Rattle.cls_path.proofs.laws.types_are_paths.Goals as goal

pub returns : goal.returns
returns c = types_are_paths
