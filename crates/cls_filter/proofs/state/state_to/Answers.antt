use Rattle.std.proofs.Common.{Option, Some, ℕ, sym, ap, subst, ◌∙◌}
use Rattle.cls_filter.specs.Automata.{applied_state}
use Rattle.cls_filter.specs.States.{IsState}
use Rattle.cls_filter.proofs.state.state_to.Goals as goal

pub joined_state-requires-clause-right : goal.joined_state-requires-clause-right
joined_state-requires-clause-right c = subst (λ (s : Option ℕ). IsState s) c.in-Some.is c.requires.right

pub returns-in-Some-clause-state : goal.returns-in-Some-clause-state
returns-in-Some-clause-state c =
    c.joined_state.ensures.state ∙ ap (applied_state c.args.filter.now (Some c.args.left)) (sym c.in-Some.is)

pub returns-in-None-clause-state : goal.returns-in-None-clause-state
returns-in-None-clause-state c = ap (applied_state c.args.filter.now (Some c.args.left)) (sym c.in-None.is)
