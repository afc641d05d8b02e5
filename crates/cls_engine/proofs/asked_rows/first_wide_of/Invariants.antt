use Rattle.std.proofs.Common.{◌≡◌, ◌<◌, ℕ, Some, slice_get}
use Rattle.cls_engine.specs.Batching.{HasNoWide}
use Rattle.cls_engine.specs.Goals.{Goal}
use Rattle.cls_engine.proofs.asked_rows.first_wide_of.Given as goal

-- no closure of a goal before has a wide goal
abbrev pub invariant-loop-place : goal.invariant-loop-place
invariant-loop-place l = (k : ℕ) (g : Goal) → k < l.place → slice_get l.asked.goals k ≡ Some g → HasNoWide l.asked.by g
