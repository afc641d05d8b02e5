use Rattle.std.proofs.Common.{List, sym, subst}
use Rattle.std.specs.Prelude.{Option}
use Rattle.cls_lexer.specs.Words.{Word, words}
use Rattle.cls_query.specs.declared.word.QueryWord.{QueryWord}
use Rattle.cls_query.specs.QueryReading.{query_behind, Gives}
use Rattle.cls_query.proofs.form.spelled_query.Goals as goal

pub returns-in-Some : goal.returns-in-Some
returns-in-Some c =
    let ws = words c.args.tokens.now in
    subst (λ (o : Option (QueryWord × List Word)). Gives (query_behind ws o) c.query_after.result) (sym c.in-Some.ensures) c.query_after.ensures
