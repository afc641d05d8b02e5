use Rattle.cls_lexer.proofs.LinePieces.{lines_of-nil, ended_lines-HasNoFeed, lines_of-HasNoFeed}
use Rattle.cls_lexer.proofs.laws.held_bytes_are_the_last_line.Goals as goal

pub returns-clause-none : goal.returns-clause-none
returns-clause-none c = lines_of-nil

pub returns-clause-ended : goal.returns-clause-ended
returns-clause-ended c = ended_lines-HasNoFeed

pub returns-clause-last : goal.returns-clause-last
returns-clause-last c = lines_of-HasNoFeed
