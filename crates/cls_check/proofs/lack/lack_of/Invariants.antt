use Rattle.cls_check.proofs.Sets.{IsSoFar}
use Rattle.cls_check.proofs.lack.lack_of.Given as goal

abbrev pub invariant-loop-number : goal.invariant-loop-number
invariant-loop-number l = IsSoFar l.numbers l.flags l.number-index l.missing
