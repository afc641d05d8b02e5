use Rattle.std.proofs.Common.{sym}
use Rattle.cls_lexer.specs.Names.{number_of}
use Rattle.cls_lexer.specs.Words.{words}
use Rattle.cls_syntax.specs.SpelledTerms.{term_text}
use Rattle.cls_term.proofs.CodeDrafts.{moved, leads_whole}
use Rattle.cls_term.proofs.code_builder.build.Goals as goal

pub loop-token-init : goal.loop-token-init
loop-token-init c =
    let number = number_of c.args.components.now in
    moved number (words c.as_slice-tokens.result.now) _
    (λ i. record { code = sym c.in_ok-with_capacity.ensures.items i; places = sym c.new.ensures.items i })
    (leads_whole number (term_text c.args.spelled.now) (words c.as_slice-tokens.result.now) c.as_slice-tokens.ensures)
