use Rattle.std.proofs.Common.{[], take}
use Rattle.cls_enum.specs.CellTables.{cell_of}
use Rattle.cls_enum.specs.Members.{IsAdded}
use Rattle.cls_enum.specs.Plans.{plan_candidates}
use Rattle.cls_enum.proofs.find.find.Given as goal

abbrev pub invariant-loop-plan : goal.invariant-loop-plan
invariant-loop-plan l = IsAdded l.held.bank.now [] (plan_candidates (cell_of l.held.bank.now l.held.cells.now) l.size (take l.plan-index l.plans)) l.found
