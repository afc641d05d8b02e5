use Rattle.std.proofs.Common.{◌≡◌, ℕ, ◌<◌, length, slice_index}
use Rattle.cls_base.specs.Languages.{rules_at}
use Rattle.cls_walk.specs.Stages.{rules_count}
use Rattle.cls_walk.proofs.upper.upper_column.Given as goal

abbrev pub invariant-loop-node : goal.invariant-loop-node
invariant-loop-node g l = record {
  column : (n : ℕ) → n < l.node → slice_index l.column.items n ≡ rules_count l.stage (rules_at (g.B.RuleBook.book l.book) n);
  long : length l.column.items ≡ l.node;
}
