use Rattle.cls_term.specs.Costs.{cost_of}
use Rattle.cls_finite.specs.declared.sizes.TheConstants.{SIZE_CAP}
use Rattle.cls_finite.specs.Descents.{IsKept, weight}
use Rattle.cls_finite.proofs.descent.finite.Given as goal

abbrev pub invariant-loop-descent : goal.invariant-loop-descent
invariant-loop-descent g l = IsKept SIZE_CAP (cost_of l.costs) (g.B.RuleBook.book l.book) l.flags-inside.items.items l.descent

abbrev pub decreases-loop-descent : goal.decreases-loop-descent
decreases-loop-descent g l = weight l.descent.marks
