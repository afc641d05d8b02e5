use Rattle.cls_cover.specs.Fronts.{AreLarge}
use Rattle.cls_cover.proofs.large.large_covers.Given as goal

abbrev pub invariant-loop-count : goal.invariant-loop-count
invariant-loop-count l = AreLarge l.families l.limit l.count l.large
