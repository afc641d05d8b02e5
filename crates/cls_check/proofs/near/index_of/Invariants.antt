use Rattle.cls_check.specs.Near.{AreIndexed}
use Rattle.cls_check.proofs.near.index_of.Given as goal

abbrev pub invariant-loop-k : goal.invariant-loop-k
invariant-loop-k l = AreIndexed l.count l.layer l.k l.under.items l.small
