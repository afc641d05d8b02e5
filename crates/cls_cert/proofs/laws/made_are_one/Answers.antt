use Rattle.cls_grammar.specs.Grammars.{book_of}
use Rattle.cls_cert.specs.Conditions.{forms_of}
use Rattle.cls_cert.proofs.Unique.{one_made}
use Rattle.cls_cert.proofs.laws.made_are_one.Goals as goal

pub returns : goal.returns
returns c = λ l rows h a b. one_made l (forms_of rows) (book_of rows) a b
