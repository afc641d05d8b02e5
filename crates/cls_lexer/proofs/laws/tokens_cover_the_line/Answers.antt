use Rattle.cls_lexer.proofs.TokenCuts.{tokens_cut}
use Rattle.cls_lexer.proofs.TokenPlaces.{tokens_ascend, tokens_cover}
use Rattle.cls_lexer.proofs.laws.tokens_cover_the_line.Goals as goal

pub returns-clause-ascending : goal.returns-clause-ascending
returns-clause-ascending c = tokens_ascend

pub returns-clause-covered : goal.returns-clause-covered
returns-clause-covered c = tokens_cover

pub returns-clause-cut : goal.returns-clause-cut
returns-clause-cut c = tokens_cut
