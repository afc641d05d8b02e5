use Rattle.std.proofs.Common.{List, sym, subst}
use Rattle.cls_path.specs.Paths.{TypePath}
use Rattle.cls_core.specs.Rows.{Row}
use Rattle.cls_core.specs.Grammar.{IsGrammar}
use Rattle.cls_call_tests.proofs.grammars.grammar.Goals as goal

pub of-requires : goal.of-requires
of-requires g c =
    let k = c.in_ok-done.ensures.complete in (
      c.args.goal,
      subst (λ (rows : List (Row (List TypePath))). IsGrammar c.args.goal rows) (sym k.shown_rows)
          (c.complete_histories_make_grammars.ensures _ _ _ _ (k.legal, k.all_filed)).0,
    )
