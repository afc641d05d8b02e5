use Rattle.std.proofs.Common.{ℕ, ◌<◌, get_or}
use Rattle.cls_path.specs.Paths.{unit}
use Rattle.cls_library.specs.Reaching.{PathLeIn}
use Rattle.cls_check.proofs.asked.leads_to.Given as goal

abbrev pub invariant-loop-path : goal.invariant-loop-path
invariant-loop-path l = (k : ℕ) → k < l.path-index → PathLeIn l.lib l.target (get_or l.goal k unit) → ⊥
