use Rattle.cls_repo.proofs.RepositoryLaws.{repositories_have_no_fault}
use Rattle.cls_repo.proofs.laws.repositories_have_no_fault.Goals as goal

pub returns : goal.returns
returns c = repositories_have_no_fault
