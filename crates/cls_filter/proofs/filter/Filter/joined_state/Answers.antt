use Rattle.std.proofs.Common.{Option, ℕ, sym, ap, subst, ◌∙◌}
use Rattle.cls_filter.specs.Automata.{Automaton, settled, joined_state, pair_number}
use Rattle.cls_filter.specs.States.{IsState}
use Rattle.cls_filter.specs.Tables.{said_at}
use Rattle.cls_filter.proofs.Tables.{settled-state}
use Rattle.cls_filter.proofs.filter.Filter.joined_state.Goals as goal

pub returns-clause-state : goal.returns-clause-state
returns-clause-state c =
    c.settled.ensures ∙ (ap (λ (s : Option (Option ℕ)). settled s c.self.inside.other) c.said_at.ensures ∙ ap (λ (a : Automaton). joined_state a c.args.left c.args.right) c.self.view_is)

pub returns-clause-small : goal.returns-clause-small
returns-clause-small c =
    let number = pair_number c.args.left c.args.right in
    let is = c.settled.ensures ∙ ap (λ (s : Option (Option ℕ)). settled s c.self.inside.other) c.said_at.ensures in
    subst (λ (s : Option ℕ). IsState s) (sym is) (settled-state (said_at c.self.inside.pairs number) c.self.inside.other (c.self.invariant.pairs number) c.self.invariant.other)
