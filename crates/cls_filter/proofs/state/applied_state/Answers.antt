use Rattle.std.proofs.Common.{Option, ℕ, sym, ap, subst, ◌∙◌}
use Rattle.cls_filter.specs.Automata.{applied_state}
use Rattle.cls_filter.specs.States.{IsState}
use Rattle.cls_filter.proofs.state.applied_state.Goals as goal

pub state_to-requires-clause-left : goal.state_to-requires-clause-left
state_to-requires-clause-left c = subst (λ (s : Option ℕ). IsState s) c.in-Some.is c.requires.left

pub returns-in-Some-clause-state : goal.returns-in-Some-clause-state
returns-in-Some-clause-state c =
    c.state_to.ensures.state ∙ ap (λ (s : Option ℕ). applied_state c.args.filter.now s c.args.right) (sym c.in-Some.is)

pub returns-in-None-clause-state : goal.returns-in-None-clause-state
returns-in-None-clause-state c = ap (λ (s : Option ℕ). applied_state c.args.filter.now s c.args.right) (sym c.in-None.is)
