use Rattle.cls_laws.proofs.Grammars.{grammar_texts_exist}
use Rattle.cls_laws.proofs.laws.grammar_texts_exist.Goals as goal

pub returns : goal.returns
returns c = grammar_texts_exist
