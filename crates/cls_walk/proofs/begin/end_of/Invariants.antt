use Rattle.std.proofs.Common.{◌≤◌}
use Rattle.cls_walk.proofs.begin.end_of.Given as goal

abbrev pub invariant-loop-index : goal.invariant-loop-index
invariant-loop-index l = l.first ≤ l.index
