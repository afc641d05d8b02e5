use Rattle.std.proofs.Common.{ℕ, ◌<◌, get_or, []}
use Rattle.cls_path.specs.Paths.{listed, type_of_paths}
use Rattle.cls_check.specs.Checking.{IsSubtype}
use Rattle.cls_check.proofs.goals.Goals.any_above.Given as goal

abbrev pub invariant-loop-goal : goal.invariant-loop-goal
invariant-loop-goal l = (k : ℕ) → k < l.goal-index → IsSubtype l.lib (type_of_paths (listed l.nf)) (type_of_paths (listed (get_or l.goal-items k []))) → ⊥
