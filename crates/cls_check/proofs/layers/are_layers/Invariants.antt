use Rattle.std.proofs.Common.{ℕ, ◌<◌, get_or, []}
use Rattle.std.specs.Prelude.{All}
use Rattle.cls_check.specs.Checking.{ArePositions}
use Rattle.cls_check.proofs.layers.are_layers.Given as goal

abbrev pub invariant-loop-i : goal.invariant-loop-i
invariant-loop-i l = (k : ℕ) → k < l.i → All (ArePositions l.count) (get_or l.layers k [])
