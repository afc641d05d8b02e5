use Rattle.std.proofs.Common.{ℕ, ◌≤◌, ◌<◌, ◌+◌, ◌-◌}
use Rattle.cls_base.specs.Limits.{max_term_length}
use Rattle.cls_base.specs.Terms.{Applicative, length_of}
use Rattle.cls_enum.specs.CellTables.{cell_of}
use Rattle.cls_enum.specs.Members.{IsIn}
use Rattle.cls_enum.specs.Plans.{after}
use Rattle.cls_enum.proofs.bounds.least_of.Given as goal

abbrev pub invariant-loop-smaller : goal.invariant-loop-smaller
invariant-loop-smaller l = record {
  least : (t : ℕ) → t < l.smaller → (a : Applicative) → IsIn (cell_of l.bank l.cells t l.node) a → l.least ≤ length_of a + after l.places (l.size - t);
  small : l.least ≤ max_term_length + 1;
}
