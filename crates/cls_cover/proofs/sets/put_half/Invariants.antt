use Rattle.cls_cover.proofs.Halves.{IsPartlyPut}
use Rattle.cls_cover.proofs.sets.put_half.Given as goal

abbrev pub invariant-loop-rest : goal.invariant-loop-rest
invariant-loop-rest l = IsPartlyPut l.half l.first l.initial.list.items l.list.items l.rest

abbrev pub decreases-loop-rest : goal.decreases-loop-rest
decreases-loop-rest l = l.rest
