use Rattle.std.proofs.Common.{drop, []}
use Rattle.cls_base.specs.Terms.{code_of}
use Rattle.cls_lexer.specs.Names.{number_of}
use Rattle.cls_lexer.specs.Words.{words}
use Rattle.cls_syntax.specs.SpelledTerms.{term_text}
use Rattle.cls_term.specs.CodeDrafts.{state_of, Leads}
use Rattle.cls_term.specs.TermReadings.{term_of}
use Rattle.cls_term.proofs.code_builder.build.Given as goal

-- the words to come lead to the code of the term
abbrev pub invariant-loop-token : goal.invariant-loop-token
invariant-loop-token l =
    Leads (number_of l.components) (state_of l.draft) (words (drop l.token-index l.tokens))
    (record { code = code_of (term_of (number_of l.components) (term_text l.spelled)); places = [] })
