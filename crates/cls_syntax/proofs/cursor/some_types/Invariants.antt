use Rattle.cls_lexer.specs.declared.token.TokenKind.TheVariants.{Bar}
use Rattle.std.proofs.Common.{length}
use Rattle.cls_lexer.specs.Words.{words}
use Rattle.cls_syntax.proofs.TypeListSpans.{IsReading}
use Rattle.cls_syntax.proofs.cursor.some_types.Given as goal

abbrev pub invariant-loop-next : goal.invariant-loop-next
invariant-loop-next l = IsReading Bar (words l.tokens) (words l.rest) l.most_nodes

abbrev pub decreases-loop-next : goal.decreases-loop-next
decreases-loop-next l = length l.rest
