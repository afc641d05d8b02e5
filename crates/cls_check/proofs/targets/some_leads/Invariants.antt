use Rattle.std.proofs.Common.{ℕ, ◌<◌, get_or}
use Rattle.cls_check.specs.Checking.{LeadsTo}
use Rattle.cls_check.specs.Places.{arrows_in}
use Rattle.cls_check.proofs.targets.some_leads.Given as goal

abbrev pub invariant-loop-position : goal.invariant-loop-position
invariant-loop-position l = (k : ℕ) → k < l.position-index → LeadsTo l.lib (arrows_in l.lib l.fn.place) l.path (get_or l.positions k 0) → ⊥
