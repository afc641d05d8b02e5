use Rattle.std.proofs.Common.{List, Option, ℕ, sym, subst}
use Rattle.cls_filter.specs.States.{IsState, AreStates}
use Rattle.cls_filter.proofs.Tables.{pairs-states}
use Rattle.cls_filter.proofs.filter.Filter.app.Goals as goal

pub invariant_of-self : goal.invariant_of-self
invariant_of-self c =
    let small = subst (λ (s : Option ℕ). IsState s) (sym c.kept_state-state.ensures) c.requires in
    record {
      leaves = c.self.invariant.leaves;
      pairs = subst (λ (xs : List (Option (Option ℕ))). AreStates xs) (sym c.put_pairs.ensures) (pairs-states c.args.left c.args.right c.kept_state-state.result c.self.inside.pairs c.self.invariant.pairs small);
      other = c.self.invariant.other;
    }
