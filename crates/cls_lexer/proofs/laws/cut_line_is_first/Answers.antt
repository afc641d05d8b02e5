use Rattle.cls_lexer.proofs.LinePieces.{lines_of-CutsLine, ended_lines-CutsLine}
use Rattle.cls_lexer.proofs.laws.cut_line_is_first.Goals as goal

pub returns-clause-lines : goal.returns-clause-lines
returns-clause-lines c = lines_of-CutsLine

pub returns-clause-ended : goal.returns-clause-ended
returns-clause-ended c = ended_lines-CutsLine
