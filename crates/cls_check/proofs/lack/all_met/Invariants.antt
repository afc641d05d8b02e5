use Rattle.std.proofs.Common.{◌≡◌, length, get_or, map, ℕ, []}
use Rattle.cls_check.proofs.Sets.{MetTo}
use Rattle.cls_check.proofs.lack.all_met.Given as goal

abbrev pub invariant-loop-number : goal.invariant-loop-number
invariant-loop-number l = record {
  count : length l.met.items ≡ l.count;
  met_to : MetTo (map (λ (k : ℕ). get_or l.layer k []) l.number-items) l.set l.number-index l.met.items;
}
