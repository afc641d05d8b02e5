use Rattle.cls_library.proofs.RulesTyping.{rules_are_the_typing}
use Rattle.cls_library.proofs.laws.rules_are_the_typing.Goals as goal

pub returns : goal.returns
returns c = rules_are_the_typing
