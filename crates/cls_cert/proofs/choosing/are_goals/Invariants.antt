use Rattle.std.proofs.Common.{◌≡◌, take}
use Rattle.std.specs.Prelude.{map}
use Rattle.cls_path.specs.Paths.{listed}
use Rattle.cls_cert.specs.Building.{goals_over}
use Rattle.cls_cert.specs.Conditions.{forms_of}
use Rattle.cls_cert.proofs.choosing.are_goals.Given as goal

abbrev pub invariant-loop-i : goal.invariant-loop-i
invariant-loop-i l = map listed (take l.i l.goals) ≡ goals_over (forms_of l.grammar) (take l.i l.numbers)
