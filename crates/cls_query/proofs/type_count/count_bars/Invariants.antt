use Rattle.std.proofs.Common.{◌≡◌, ◌≤◌, drop}
use Rattle.cls_query.specs.TypeCounts.{bars_from}
use Rattle.cls_query.proofs.type_count.count_bars.Given as goal

abbrev pub invariant-loop-token : goal.invariant-loop-token
invariant-loop-token l = record {
  few : l.count ≤ l.token-index;
  same : bars_from l.count (drop l.token-index l.tokens) ≡ bars_from 0 l.tokens;
}
