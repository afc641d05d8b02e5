use Rattle.std.proofs.Common.{ℕ, ◌<◌}
use Rattle.cls_base.specs.Languages.{rules_at}
use Rattle.cls_term.specs.Costs.{cost_of}
use Rattle.cls_walk.specs.Ends.{CostAtMost}
use Rattle.cls_walk.proofs.ends.last_size.Given as goal

abbrev pub invariant-loop-node : goal.invariant-loop-node
invariant-loop-node g l = (n : ℕ) → n < l.node → CostAtMost (cost_of l.costs) l.best (rules_at (g.B.RuleBook.book l.book) n)
