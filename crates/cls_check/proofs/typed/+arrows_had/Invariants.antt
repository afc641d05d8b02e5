use Rattle.std.proofs.Common.{length}
use Rattle.cls_check.specs.Asking.{goals_of}
use Rattle.cls_check.proofs.Codes.{IsHalfway}
use Rattle.cls_check.proofs.typed.+arrows_had.Given as goal

abbrev pub decreases-arrows_had : goal.decreases-arrows_had
decreases-arrows_had l = length l.code.now

abbrev pub invariant-loop-place : goal.invariant-loop-place
invariant-loop-place l = IsHalfway l.lib l.code l.head l.count (goals_of l.asked) l.place l.rest l.kept
