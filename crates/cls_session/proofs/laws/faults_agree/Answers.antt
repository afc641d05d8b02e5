use Rattle.cls_session.proofs.RepositoryFaults.{faults_agree}
use Rattle.cls_session.proofs.laws.faults_agree.Goals as goal

pub returns : goal.returns
returns c = faults_agree
