use Rattle.std.proofs.Common.{◌≡◌, [], take}
use Rattle.indexmap.specs.IndexSet.{insert_all}
use Rattle.cls_core.proofs.copying.copy_goals.Given as goal

abbrev pub invariant-loop-goal : goal.invariant-loop-goal
invariant-loop-goal g l = l.copies.keys ≡ insert_all g.G.PartialEq.eq [] (take l.goal-index l.goals.keys)
