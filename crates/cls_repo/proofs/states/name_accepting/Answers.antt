use Rattle.std.proofs.Common.{ℕ, List, take, length, ap, ◌∙◌}
use Rattle.std.proofs.lemmas.Result.{on_ok_weaker}
use Rattle.cls_lexer.specs.Names.{with_texts}
use Rattle.cls_syntax.specs.TokenTexts.{texts}
use Rattle.cls_syntax.proofs.Tables.{kept_one}
use Rattle.cls_repo.proofs.StateNames.{kept_same, kept_on}
use Rattle.cls_repo.proofs.states.name_accepting.Goals as goal

pub returns-in_err-number_name-clause-kept : goal.returns-in_err-number_name-clause-kept
returns-in_err-number_name-clause-kept c = kept_same c.args.states.now c.number_name.new.names c.in_err-number_name.ensures.unchanged

pub returns-clause-named : goal.returns-clause-named
returns-clause-named c =
    on_ok_weaker c.name_all.result (λ e. e ∙ ap (λ (ts : List (List ℕ)). with_texts ts (texts c.args.others.now)) c.in_ok-number_name.ensures.table) c.name_all.ensures.named

pub returns-clause-kept : goal.returns-clause-kept
returns-clause-kept c =
    kept_on c.args.states.now c.number_name.new.names c.name_all.new.states (ap (take (length c.args.states.now)) c.in_ok-number_name.ensures.table ∙ kept_one c.args.states.now c.args.first.now) c.name_all.ensures.kept
