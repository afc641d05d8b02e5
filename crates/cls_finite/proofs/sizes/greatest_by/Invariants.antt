use Rattle.std.proofs.Common.{◌≡◌, take}
use Rattle.cls_term.specs.Costs.{cost_of}
use Rattle.cls_finite.specs.declared.sizes.TheConstants.{SIZE_CAP}
use Rattle.cls_finite.specs.Descents.{greatest_by}
use Rattle.cls_finite.proofs.sizes.greatest_by.Given as goal

abbrev pub invariant-loop-place : goal.invariant-loop-place
invariant-loop-place l = l.greatest ≡ greatest_by SIZE_CAP (cost_of l.costs) l.marks l.flags (take l.place l.rules)
