use Rattle.std.proofs.Common.{sym, subst}
use Rattle.std.specs.Prelude.{OnOk}
use Rattle.cls_lexer.specs.Words.{words_of}
use Rattle.cls_query.specs.Changes.{WordsSay}
use Rattle.cls_query.specs.ChangeSteps.{IsNamed}
use Rattle.cls_query.specs.ReadChanges.{SpelledChange, change_text}
use Rattle.cls_query.proofs.change_reader.check.Goals as goal

pub returns-in-Add-clause-tested : goal.returns-in-Add-clause-tested
returns-in-Add-clause-tested c line says =
    c.check_addition.ensures.tested line (subst (λ (s : SpelledChange). WordsSay (change_text s) (words_of line)) c.in-Add.is says)

pub returns-in-Add-clause-named : goal.returns-in-Add-clause-named
returns-in-Add-clause-named c =
    subst (λ (s : SpelledChange). OnOk c.check_addition.result (IsNamed c.args.components.now (change_text s))) (sym c.in-Add.is) c.check_addition.ensures.named

pub returns-in-Remove-clause-tested : goal.returns-in-Remove-clause-tested
returns-in-Remove-clause-tested c line says =
    c.check_removal.ensures.tested line (subst (λ (s : SpelledChange). WordsSay (change_text s) (words_of line)) c.in-Remove.is says)

pub returns-in-Remove-clause-named : goal.returns-in-Remove-clause-named
returns-in-Remove-clause-named c =
    subst (λ (s : SpelledChange). OnOk c.check_removal.result (IsNamed c.args.components.now (change_text s))) (sym c.in-Remove.is) c.check_removal.ensures.named
