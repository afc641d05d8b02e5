use Rattle.cls_syntax.proofs.PartNames.{type_constructors, type_variables}
use Rattle.cls_syntax.proofs.laws.parts_name_what_words_do.Goals as goal

pub returns-clause-constructors : goal.returns-clause-constructors
returns-clause-constructors c = type_constructors

pub returns-clause-variables : goal.returns-clause-variables
returns-clause-variables c = type_variables
