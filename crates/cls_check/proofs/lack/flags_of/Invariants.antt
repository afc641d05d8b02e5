use Rattle.std.proofs.Common.{ℕ, ◌≡◌, ◌<◌, ◌↔◌, get_or, length, IsTrue}
use Rattle.cls_check.specs.Layers.{flag}
use Rattle.cls_check.proofs.lack.flags_of.Given as goal

abbrev pub invariant-loop-number : goal.invariant-loop-number
invariant-loop-number l = record {
  count : length l.flags.items ≡ l.count;
  flagged : (i : ℕ) → IsTrue (flag l.flags.items i) ↔ ((k : ℕ) × (k < l.number-index) × (get_or l.set k 0 ≡ i));
}
