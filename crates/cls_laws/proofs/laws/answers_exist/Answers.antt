use Rattle.cls_laws.proofs.Answers.{answers_exist}
use Rattle.cls_laws.proofs.laws.answers_exist.Goals as goal

pub returns : goal.returns
returns c = answers_exist
