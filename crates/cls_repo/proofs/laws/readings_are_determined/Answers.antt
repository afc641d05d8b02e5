use Rattle.cls_repo.proofs.RepositoryLaws.{readings_are_determined}
use Rattle.cls_repo.proofs.laws.readings_are_determined.Goals as goal

pub returns : goal.returns
returns c = readings_are_determined
