use Rattle.std.proofs.Common.{◌≡◌, ◌++◌, length, take, drop}
use Rattle.std.specs.Prelude.{map}
use Rattle.cls_filter.specs.Lines.{without_leaf}
use Rattle.cls_filter.proofs.filters.remove_from_each.Given as goal

abbrev pub invariant-loop-number : goal.invariant-loop-number
invariant-loop-number l = record {
  count : length l.filters.items ≡ length l.fn.filters.items;
  so_far : l.filters.items ≡ map (λ a. without_leaf a l.component) (take l.number l.fn.filters.items) ++ drop l.number l.fn.filters.items;
}
