use Rattle.std.proofs.Common.{take}
use Rattle.cls_cert.specs.Building.{HaveLess}
use Rattle.cls_cert.proofs.choosing.are_less.Given as goal

abbrev pub invariant-loop-goal : goal.invariant-loop-goal
invariant-loop-goal l = HaveLess l.ranks l.rank (take l.goal-index l.goals)
