use Rattle.std.proofs.Common.{◌≤◌, ℕ, List, length}
use Rattle.cls_base.specs.declared.rule.Rule.{Rule}
use Rattle.cls_term.specs.Costs.{cost_of}
use Rattle.cls_walk.specs.FrameColumns.{AreRules}
use Rattle.cls_walk.specs.FrameRules.{ArePairsWithin, AreRaised}
use Rattle.cls_walk.proofs.smallest.smallest_sizes.Given as goal

abbrev pub invariant-loop-round : goal.invariant-loop-round
invariant-loop-round l = (book : List (List (Rule ℕ))) → AreRules book l.rules → ArePairsWithin book → length book ≤ l.count → AreRaised book (cost_of l.costs) l.count l.most l.least
