use Rattle.std.proofs.Common.{sym, subst}
use Rattle.cls_lexer.specs.Words.{words}
use Rattle.cls_syntax.specs.ClosedTypes.{HasNoDollar}
use Rattle.cls_syntax.proofs.FirstBars.{list_words}
use Rattle.cls_syntax.proofs.spelled_types.SpelledTypes.types.Goals as goal

pub read_types-requires-clause-closed : goal.read_types-requires-clause-closed
read_types-requires-clause-closed c =
    subst HasNoDollar (sym (list_words (words c.args.self.now.tokens.now) c.args.self.now.spelled)) c.requires
