use Rattle.cls_lexer.proofs.TokenPlaces.{tokens_longest}
use Rattle.cls_lexer.proofs.TokenSpelling.{Spells-once}
use Rattle.cls_lexer.proofs.laws.tokens_are_longest.Goals as goal

pub returns-clause-longest : goal.returns-clause-longest
returns-clause-longest c = tokens_longest

pub returns-clause-once : goal.returns-clause-once
returns-clause-once c = Spells-once
