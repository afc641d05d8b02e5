use Rattle.std.proofs.Common.{drop, ◌+◌, take, length, ap, ◌∙◌}
use Rattle.std.proofs.lemmas.List.{drop_all}
use Rattle.cls_syntax.specs.TokenTexts.{texts}
use Rattle.cls_syntax.proofs.Tables.{kept}
use Rattle.cls_repo.proofs.StateNames.{none_named, one_named, all_named, next_text}
use Rattle.cls_repo.proofs.states.name_all.Goals as goal

pub loop-token-init : goal.loop-token-init
loop-token-init c = none_named c.args.states.now (texts c.args.named.now)

pub returns-in_err-number_name-clause-kept : goal.returns-in_err-number_name-clause-kept
returns-in_err-number_name-clause-kept c = ap (take (length c.args.states.now)) c.in_err-number_name.ensures.unchanged ∙ kept c.loop-token.invariant.grown

pub loop-token-preserved : goal.loop-token-preserved
loop-token-preserved c =
    let named = c.args.named.now in
    let token = c.token-item.result in
    one_named c.args.states.now (texts named) c.loop-token.states c.number_name.new.names (texts (drop c.loop-token.token-index named)) (texts (drop (c.loop-token.token-index + 1) named)) token.text.now
    (next_text named c.loop-token.token-index token c.loop-token-test.true c.token-item.is) c.in_ok-number_name.ensures.table c.loop-token.invariant

pub returns-clause-named : goal.returns-clause-named
returns-clause-named c =
    let named = c.args.named.now in
    all_named c.args.states.now (texts named) c.loop-token.states (texts (drop c.loop-token.token-index named)) (ap texts (drop_all c.loop-token.token-index named c.loop-token-test.false)) c.loop-token.invariant

pub returns-clause-kept : goal.returns-clause-kept
returns-clause-kept c = kept c.loop-token.invariant.grown
