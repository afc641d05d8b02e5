use Rattle.cls_repo.proofs.RepositoryLaws.{faults_are_determined}
use Rattle.cls_repo.proofs.laws.faults_are_determined.Goals as goal

pub returns : goal.returns
returns c = faults_are_determined
