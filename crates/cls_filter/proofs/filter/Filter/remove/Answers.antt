use Rattle.std.proofs.Common.{List, Option, ℕ, sym, subst}
use Rattle.cls_filter.specs.States.{AreStates}
use Rattle.cls_filter.proofs.Tables.{removed-states}
use Rattle.cls_filter.proofs.filter.Filter.remove.Goals as goal

pub invariant_of-self : goal.invariant_of-self
invariant_of-self c = record {
  leaves = subst (λ (xs : List (Option (Option ℕ))). AreStates xs) (sym c.take_out.ensures) (removed-states c.self.inside.leaves.items c.args.component c.self.invariant.leaves);
  pairs = c.self.invariant.pairs;
  other = c.self.invariant.other;
}
