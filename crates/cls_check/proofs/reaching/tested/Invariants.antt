use Rattle.std.proofs.Common.{ℕ, ◌<◌, ◌↔◌, Contains}
use Rattle.cls_check.specs.Asking.{goals_of}
use Rattle.cls_check.specs.Deciding.{IsLeading, arrow_of}
use Rattle.cls_check.proofs.reaching.tested.Given as goal

abbrev pub invariant-loop-i : goal.invariant-loop-i
invariant-loop-i l = (k : ℕ) → Contains l.positions.items k ↔ ((k < l.i) × IsLeading l.lib (goals_of l.asked) (arrow_of l.arrows k).target)
