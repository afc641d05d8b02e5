use Rattle.std.proofs.Common.{ℕ, ◌-◌, ◌<◌, ◌≤◌, length, get_or}
use Rattle.cls_walk.specs.Openings.{no_opening, IsAtMost, IsBelow}
use Rattle.cls_walk.proofs.ahead.place_from.Given as goal

abbrev pub invariant-loop-low : goal.invariant-loop-low
invariant-loop-low l = record {
  from : l.first ≤ l.low;
  rises : l.low ≤ l.high;
  within : l.high ≤ length l.offers;
  before : (i : ℕ) → l.first ≤ i → i < l.low → IsBelow (get_or l.offers i no_opening) l.opening.component l.opening.count;
  not : (i : ℕ) → l.high ≤ i → i < length l.offers → IsAtMost l.opening (get_or l.offers i no_opening).component (get_or l.offers i no_opening).count;
}

abbrev pub decreases-loop-low : goal.decreases-loop-low
decreases-loop-low l = l.high - l.low
