use Rattle.std.proofs.Common.{Option, ℕ, sym, subst}
use Rattle.cls_filter.specs.States.{IsState}
use Rattle.cls_filter.proofs.Tables.{other-state}
use Rattle.cls_filter.proofs.filter.Filter.other.Goals as goal

pub invariant_of-self : goal.invariant_of-self
invariant_of-self c = record {
  leaves = c.self.invariant.leaves;
  pairs = c.self.invariant.pairs;
  other = subst (λ (s : Option ℕ). IsState s) (sym c.first_other-self-inside.ensures) (other-state c.self.inside.other c.args.state c.self.invariant.other c.requires);
}
