use Rattle.std.proofs.Common.{ℕ, ◌≡◌, ◌<◌, get_or, w64}
use Rattle.std.specs.Int.{bit_not}
use Rattle.std.specs.Int.Bits.{bit_and}
use Rattle.cls_cover.proofs.flags.are_shared_apart.Given as goal

abbrev pub invariant-loop-i : goal.invariant-loop-i
invariant-loop-i l = (k : ℕ) → k < l.i → bit_and (bit_and (bit_and (get_or l.once k 0) (get_or l.front k 0)) (get_or l.row k 0)) (bit_not w64 (get_or l.other k 0)) ≡ 0
