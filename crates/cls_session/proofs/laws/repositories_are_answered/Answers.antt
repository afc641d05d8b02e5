use Rattle.cls_session.proofs.RepositoryAnswers.{repositories_answered}
use Rattle.cls_session.proofs.laws.repositories_are_answered.Goals as goal

pub returns : goal.returns
returns c = repositories_answered
