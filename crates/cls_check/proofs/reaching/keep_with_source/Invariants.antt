use Rattle.std.proofs.Common.{ℕ, ◌<◌, ◌≤◌, Contains, length}
use Rattle.cls_library.specs.Arrows.{MultiArrow}
use Rattle.cls_library.specs.Reaching.{PathsLeIn}
use Rattle.cls_check.specs.Deciding.{targets_of, arrow_of, source_of}
use Rattle.cls_check.proofs.reaching.keep_with_source.Given as goal

abbrev pub invariant-loop-i : goal.invariant-loop-i
invariant-loop-i l = record {
  within : l.i ≤ length l.kept;
  among : (a : MultiArrow) → Contains l.kept a → Contains l.initial.kept a;
  complete : (a : MultiArrow) → Contains l.initial.kept a → PathsLeIn l.lib (targets_of l.had) (source_of a l.place) → Contains l.kept a;
  done : (k : ℕ) → l.i ≤ k → k < length l.kept → PathsLeIn l.lib (targets_of l.had) (source_of (arrow_of l.kept k) l.place);
}

abbrev pub decreases-loop-i : goal.decreases-loop-i
decreases-loop-i l = l.i
