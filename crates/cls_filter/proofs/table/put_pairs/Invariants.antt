use Rattle.std.proofs.Common.{◌≡◌, ◌++◌, length, take, drop}
use Rattle.cls_filter.specs.Tables.{map_from}
use Rattle.cls_filter.specs.Lines.{pair_said}
use Rattle.cls_filter.proofs.table.put_pairs.Given as goal

abbrev pub invariant-loop-number : goal.invariant-loop-number
invariant-loop-number l = record {
  whole : length l.fn.pairs ≡ 256;
  count : length l.pairs ≡ 256;
  so_far : l.pairs ≡ take l.number (map_from (pair_said l.left l.right l.state) 0 l.fn.pairs) ++ drop l.number l.fn.pairs;
}
