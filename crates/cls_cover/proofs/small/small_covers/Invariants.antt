use Rattle.cls_cover.specs.Fronts.{AreSmall}
use Rattle.cls_cover.proofs.small.small_covers.Given as goal

abbrev pub invariant-loop-count : goal.invariant-loop-count
invariant-loop-count l = AreSmall l.families l.limit l.count l.small
