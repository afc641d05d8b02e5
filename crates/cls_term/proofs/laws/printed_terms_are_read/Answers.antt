use Rattle.cls_term.proofs.PrintedTerms.{printed_read}
use Rattle.cls_term.proofs.laws.printed_terms_are_read.Goals as goal

pub returns : goal.returns
returns c = printed_read
