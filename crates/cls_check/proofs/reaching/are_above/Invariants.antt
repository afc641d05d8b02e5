use Rattle.std.proofs.Common.{ℕ, ◌<◌, get_or}
use Rattle.cls_path.specs.Paths.{unit}
use Rattle.cls_check.specs.Deciding.{SomeBelow, targets_of}
use Rattle.cls_check.proofs.reaching.are_above.Given as goal

abbrev pub invariant-loop-path : goal.invariant-loop-path
invariant-loop-path l = (k : ℕ) → k < l.path-index → SomeBelow l.lib (targets_of l.had) (get_or l.goal k unit)
