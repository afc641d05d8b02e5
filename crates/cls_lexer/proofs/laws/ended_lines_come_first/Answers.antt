use Rattle.cls_lexer.proofs.LinePieces.{lines_of-ended_lines, ended_lines-append, lines_of-append}
use Rattle.cls_lexer.proofs.laws.ended_lines_come_first.Goals as goal

pub returns-clause-front : goal.returns-clause-front
returns-clause-front c = lines_of-ended_lines

pub returns-clause-ended : goal.returns-clause-ended
returns-clause-ended c = ended_lines-append

pub returns-clause-lines : goal.returns-clause-lines
returns-clause-lines c = lines_of-append
