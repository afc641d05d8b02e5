use Rattle.std.proofs.Common.{ℕ, ◌<◌}
use Rattle.cls_library.specs.Reaching.{PathLeIn}
use Rattle.cls_check.specs.Deciding.{arrow_of}
use Rattle.cls_check.proofs.reaching.is_above.Given as goal

abbrev pub invariant-loop-i : goal.invariant-loop-i
invariant-loop-i l = (k : ℕ) → k < l.i → PathLeIn l.lib (arrow_of l.had k).target l.path → ⊥
