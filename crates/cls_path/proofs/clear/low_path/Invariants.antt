use Rattle.std.proofs.Common.{◌<◌, length}
use Rattle.cls_path.proofs.clear.low_path.Given as goal

abbrev pub invariant-loop-i : goal.invariant-loop-i
invariant-loop-i g l = l.low < length l.paths
