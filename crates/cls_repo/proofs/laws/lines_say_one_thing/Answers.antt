use Rattle.cls_repo.proofs.RepositoryLaws.{lines_say_one_thing}
use Rattle.cls_repo.proofs.laws.lines_say_one_thing.Goals as goal

pub returns : goal.returns
returns c = lines_say_one_thing
