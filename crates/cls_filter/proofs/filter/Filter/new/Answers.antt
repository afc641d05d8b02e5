use Rattle.std.proofs.Common.{List, Option, ℕ, sym, subst}
use Rattle.cls_filter.specs.States.{AreStates}
use Rattle.cls_filter.proofs.Tables.{nil-states, none-states}
use Rattle.cls_filter.proofs.filter.Filter.new.Goals as goal

pub invariant_of-result : goal.invariant_of-result
invariant_of-result c = record {
  leaves = subst (λ (xs : List (Option (Option ℕ))). AreStates xs) (sym c.new.ensures.items) nil-states;
  pairs = none-states 256;
  other = tt;
}
