use Rattle.cls_session.proofs.CommandWords.{commands_are_one}
use Rattle.cls_session.proofs.laws.commands_are_one.Goals as goal

pub returns : goal.returns
returns c = commands_are_one
