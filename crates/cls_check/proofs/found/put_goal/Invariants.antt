use Rattle.std.proofs.Common.{get_or}
use Rattle.cls_path.specs.Paths.{unit}
use Rattle.cls_library.specs.Reaching.{PathLeIn}
use Rattle.cls_check.specs.Found.{Adds, HasOne}
use Rattle.cls_check.specs.Places.{arrows_in}
use Rattle.cls_check.proofs.found.put_goal.Given as goal

abbrev pub invariant-loop-path : goal.invariant-loop-path
invariant-loop-path l = Adds (arrows_in l.lib l.place) (HasOne (λ k p. PathLeIn l.lib p (get_or l.goal k unit)) l.path-index) l.initial.positions.items l.positions.items
