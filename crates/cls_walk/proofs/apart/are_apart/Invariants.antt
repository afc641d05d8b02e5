use Rattle.std.proofs.Common.{ℕ, ◌<◌}
use Rattle.cls_base.specs.Languages.{rules_at}
use Rattle.cls_walk.specs.Apart.{AreApart}
use Rattle.cls_walk.proofs.apart.are_apart.Given as goal

abbrev pub invariant-loop-node : goal.invariant-loop-node
invariant-loop-node g l = (n : ℕ) → n < l.node → AreApart (rules_at (g.B.RuleBook.book l.book) n)
