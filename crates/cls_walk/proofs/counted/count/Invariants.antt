use Rattle.cls_term.specs.Costs.{cost_of}
use Rattle.cls_walk.specs.Bounds.{HasUpper}
use Rattle.cls_walk.proofs.counted.count.Given as goal

abbrev pub invariant-loop-size : goal.invariant-loop-size
invariant-loop-size g l = HasUpper (g.B.RuleBook.book l.book) (cost_of l.costs) l.size l.table
