use Rattle.std.proofs.Common.{◌≡◌, ◌+◌, ◌-◌, false, cond, length}
use Rattle.cls_filtered.specs.Filtered.{count_true}
use Rattle.cls_filtered.specs.States.{IsSound, IsClosed}
use Rattle.cls_filtered.proofs.states.states_of.Given as goal

abbrev pub invariant-loop-more : goal.invariant-loop-more
invariant-loop-more l = record {
  sound : IsSound l.filter l.book l.states.flags;
  closed : l.more ≡ false → IsClosed l.filter l.book l.states.flags;
}

abbrev pub decreases-loop-more : goal.decreases-loop-more
decreases-loop-more l = length l.states.flags - count_true l.states.flags + cond l.more 1 0
