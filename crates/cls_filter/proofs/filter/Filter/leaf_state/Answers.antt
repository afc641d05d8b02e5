use Rattle.std.proofs.Common.{List, Option, ℕ, sym, ap, subst, ◌∙◌}
use Rattle.cls_filter.specs.Automata.{Automaton, settled, leaf_state}
use Rattle.cls_filter.specs.States.{IsState}
use Rattle.cls_filter.specs.Tables.{said_at}
use Rattle.cls_filter.proofs.Tables.{settled-state}
use Rattle.cls_filter.proofs.filter.Filter.leaf_state.Goals as goal

pub returns-clause-state : goal.returns-clause-state
returns-clause-state c =
    let said = c.said_at.ensures ∙ ap (λ (xs : List (Option (Option ℕ))). said_at xs c.args.component) c.as_slice.ensures.value in
    c.settled.ensures ∙ (ap (λ (s : Option (Option ℕ)). settled s c.self.inside.other) said ∙ ap (λ (a : Automaton). leaf_state a c.args.component) c.self.view_is)

pub returns-clause-small : goal.returns-clause-small
returns-clause-small c =
    let said = c.said_at.ensures ∙ ap (λ (xs : List (Option (Option ℕ))). said_at xs c.args.component) c.as_slice.ensures.value in
    let is = c.settled.ensures ∙ ap (λ (s : Option (Option ℕ)). settled s c.self.inside.other) said in
    subst (λ (s : Option ℕ). IsState s) (sym is) (settled-state (said_at c.self.inside.leaves.items c.args.component) c.self.inside.other (c.self.invariant.leaves c.args.component) c.self.invariant.other)
