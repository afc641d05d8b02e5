use Rattle.std.proofs.Common.{map}
use Rattle.std.specs.Prelude.{option_copied}
use Rattle.cls_base.specs.Ty.{type_of}
use Rattle.cls_lexer.specs.declared.token.TokenKind.TheVariants.{Bar}
use Rattle.cls_lexer.specs.Names.{with_texts}
use Rattle.cls_lexer.specs.Words.{words}
use Rattle.cls_syntax.specs.Forms.{types_parts, constructors_named}
use Rattle.cls_syntax.specs.Spans.{types_in}
use Rattle.cls_syntax.proofs.ClosedLists.{IsReading, left_count}
use Rattle.cls_syntax.proofs.type_list.read_types.Given as goal

abbrev pub invariant-loop-left : goal.invariant-loop-left
invariant-loop-left l =
    let all = types_in Bar (words l.fn.tokens) in
    IsReading l.fn.names (with_texts l.fn.names (constructors_named (types_parts all))) all l.names (map type_of l.types.items) (option_copied l.left)

abbrev pub decreases-loop-left : goal.decreases-loop-left
decreases-loop-left l = left_count (option_copied l.left)
