use Rattle.std.proofs.Common.{◌<◌, ◌-◌, ℕ}
use Rattle.cls_table.specs.Completing.{Continues, IsFiledAt}
use Rattle.cls_table.proofs.progress.Progress.complete.Given as goal

abbrev pub invariant-loop-row : goal.invariant-loop-row
invariant-loop-row g l = Continues l.fn.self l.progress × ((k : ℕ) → k < l.row → IsFiledAt l.progress.rows k)

abbrev pub decreases-loop-row : goal.decreases-loop-row
decreases-loop-row g l = l.progress.tag.goals - l.row
