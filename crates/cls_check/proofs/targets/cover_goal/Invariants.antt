use Rattle.std.proofs.Common.{ℕ, ◌<◌, get_or}
use Rattle.std.specs.Prelude.{Contains}
use Rattle.cls_path.specs.Paths.{unit}
use Rattle.cls_check.specs.Checking.{LeadsTo}
use Rattle.cls_check.specs.Places.{arrows_in}
use Rattle.cls_check.proofs.targets.cover_goal.Given as goal

abbrev pub invariant-loop-path : goal.invariant-loop-path
invariant-loop-path l = (k : ℕ) → k < l.path-index → (i : ℕ) × Contains l.positions i × LeadsTo l.lib (arrows_in l.lib l.place) (get_or l.path-items k unit) i
