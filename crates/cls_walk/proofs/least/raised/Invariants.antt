use Rattle.std.proofs.Common.{◌≡◌, ◌<◌, ℕ, length}
use Rattle.std.specs.Prelude.{slice_index}
use Rattle.cls_term.specs.Costs.{cost_of}
use Rattle.cls_walk.specs.Filled.{forms_at}
use Rattle.cls_walk.specs.Least.{IsLeastOf}
use Rattle.cls_walk.proofs.least.raised.Given as goal

abbrev pub invariant-loop-forms_of_node : goal.invariant-loop-forms_of_node
invariant-loop-forms_of_node l = record {
  least : (n : ℕ) → n < l.forms_of_node-index → IsLeastOf (cost_of l.costs) l.least l.most (forms_at l.forms n) (slice_index l.new.items n);
  long : length l.new.items ≡ l.forms_of_node-index;
}
