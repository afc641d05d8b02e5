use Rattle.std.proofs.lemmas.Result.{on_ok_weaker}
use Rattle.cls_repo.proofs.StateNames.{kept_on, three_named}
use Rattle.cls_repo.proofs.states.name_three.Goals as goal

pub returns-in_err-name_state-2-clause-kept : goal.returns-in_err-name_state-2-clause-kept
returns-in_err-name_state-2-clause-kept c = kept_on c.args.states.now c.name_state.new.states c.name_state-2.new.states c.in_ok-name_state.ensures.kept c.in_err-name_state-2.ensures.kept

pub returns-clause-named : goal.returns-clause-named
returns-clause-named c =
    on_ok_weaker c.name_state-3.result
    (λ e. three_named c.args.states.now c.name_state.new.states c.name_state-2.new.states c.name_state-3.new.states c.args.left.now c.args.right.now c.args.state.now c.in_ok-name_state.ensures.named c.in_ok-name_state-2.ensures.named e)
    c.name_state-3.ensures.named

pub returns-clause-kept : goal.returns-clause-kept
returns-clause-kept c = kept_on c.args.states.now c.name_state-2.new.states c.name_state-3.new.states (kept_on c.args.states.now c.name_state.new.states c.name_state-2.new.states c.in_ok-name_state.ensures.kept c.in_ok-name_state-2.ensures.kept) c.name_state-3.ensures.kept
