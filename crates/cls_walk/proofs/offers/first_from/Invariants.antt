use Rattle.std.proofs.Common.{◌≤◌, ◌-◌, length}
use Rattle.cls_walk.specs.FrameBegins.{AreBefore, AreFrom}
use Rattle.cls_walk.proofs.offers.first_from.Given as goal

abbrev pub invariant-loop-low : goal.invariant-loop-low
invariant-loop-low l = (l.low ≤ l.high) × (l.high ≤ length l.heads) × AreBefore l.low l.component l.count l.heads × AreFrom l.high l.component l.count l.heads

abbrev pub decreases-loop-low : goal.decreases-loop-low
decreases-loop-low l = l.high - l.low
