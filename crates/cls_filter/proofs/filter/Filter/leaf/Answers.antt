use Rattle.std.proofs.Common.{List, Option, ℕ, sym, subst}
use Rattle.cls_filter.specs.States.{IsState, AreStates}
use Rattle.cls_filter.proofs.Tables.{said-states}
use Rattle.cls_filter.proofs.filter.Filter.leaf.Goals as goal

pub invariant_of-self-2 : goal.invariant_of-self-2
invariant_of-self-2 c =
    let small = subst (λ (s : Option ℕ). IsState s) (sym c.kept_state-state.ensures) c.requires in
    record {
      leaves = subst (λ (xs : List (Option (Option ℕ))). AreStates xs) (sym c.in_ok-put_said.ensures.ok) (said-states c.self.inside.leaves.items c.args.component c.kept_state-state.result c.self.invariant.leaves small);
      pairs = c.self.invariant.pairs;
      other = c.self.invariant.other;
    }
