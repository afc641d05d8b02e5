-- What the code's spelled terms say.
use Rattle.cls_syntax.specs.declared.spelled_term.SpelledTerm.{SpelledTerm}
use Rattle.cls_lexer.specs.Words.{words}
use Rattle.cls_syntax.specs.TermTexts.{TermText}
use Rattle.cls_syntax.specs.Spans.{term_in}

-- the term that the tokens spell
abbrev pub term_text : SpelledTerm → TermText
term_text spelled = term_in (words spelled.tokens.now)
