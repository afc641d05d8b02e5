use Rattle.std.proofs.Common.{◌≤◌, length}
use Rattle.cls_library.specs.Chains.{AreChained}
use Rattle.cls_library.proofs.chains.Chains.new.Given as goal

abbrev pub invariant-loop-place : goal.invariant-loop-place
invariant-loop-place l = record {
  within : l.place ≤ length l.fn.kinds;
  chained : AreChained l.place l.fn.count l.fn.kinds l.firsts.items l.next.items;
}

abbrev pub decreases-loop-place : goal.decreases-loop-place
decreases-loop-place l = l.place
