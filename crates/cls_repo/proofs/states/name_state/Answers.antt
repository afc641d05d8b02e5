use Rattle.std.proofs.Common.{sym, ap, take, length, ◌∙◌}
use Rattle.cls_syntax.proofs.Tables.{kept_one}
use Rattle.cls_repo.proofs.StateNames.{kept_same, aside_named, state_named}
use Rattle.cls_repo.proofs.states.name_state.Goals as goal

pub returns-then-is_set_aside-clause-named : goal.returns-then-is_set_aside-clause-named
returns-then-is_set_aside-clause-named c = aside_named c.args.states.now c.args.word.now (sym c.is_set_aside.ensures ∙ c.if-is_set_aside.true)

pub returns-clause-named : goal.returns-clause-named
returns-clause-named c = c.in_ok-number_name.ensures.table ∙ state_named c.args.states.now c.args.word.now (sym c.is_set_aside.ensures ∙ c.if-is_set_aside.false)

pub returns-in_err-number_name-clause-kept : goal.returns-in_err-number_name-clause-kept
returns-in_err-number_name-clause-kept c = kept_same c.args.states.now c.number_name.new.names c.in_err-number_name.ensures.unchanged

pub returns-clause-kept : goal.returns-clause-kept
returns-clause-kept c = ap (take (length c.args.states.now)) c.in_ok-number_name.ensures.table ∙ kept_one c.args.states.now c.args.word.now
