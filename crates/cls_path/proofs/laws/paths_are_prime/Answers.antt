use Rattle.cls_path.proofs.PathLaws.{paths_are_prime}
use Rattle.cls_path.proofs.laws.paths_are_prime.Goals as goal

pub returns : goal.returns
returns c = paths_are_prime
