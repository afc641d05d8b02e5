use Rattle.std.proofs.Common.{[], arith}
use Rattle.std.proofs.lemmas.Result.{err_from_is_err_and}
use Rattle.cls_enum.specs.CellTables.{cell_of}
use Rattle.cls_enum.specs.Plans.{plan_terms}
use Rattle.cls_enum.proofs.CellLaws.{PlansPruned-at}
use Rattle.cls_enum.proofs.FillSteps.{IfTooMany-weaker, list-step, list-over}
use Rattle.cls_enum.proofs.find.find.Goals as goal

pub find_of-requires-clause-pruned : goal.find_of-requires-clause-pruned
find_of-requires-clause-pruned c =
    PlansPruned-at (cell_of c.args.held.now.bank.now c.args.held.now.cells.now) c.args.plans.now c.loop-plan.plan-index c.plan-item.result c.requires.pruned (omega (arith, c.loop-plan-test.true)) c.plan-item.is

pub loop-plan-preserved : goal.loop-plan-preserved
loop-plan-preserved c =
    let ts = c.args.held.now.bank.now in
    list-step ts (plan_terms (cell_of ts c.args.held.now.cells.now) c.args.size) [] c.loop-plan.found c.find_of.new.found c.args.plans.now c.loop-plan.plan-index c.plan-item.result (omega (arith, c.loop-plan-test.true)) c.plan-item.is c.loop-plan.invariant c.in_ok-find_of.ensures.added

pub returns-in_err-find_of-clause-over : goal.returns-in_err-find_of-clause-over
returns-in_err-find_of-clause-over c =
    let ts = c.args.held.now.bank.now in
    let p = err_from_is_err_and c.from_residual.result c.from_residual.ensures.1 in
    rw (p.1, p.2) (IfTooMany-weaker _ _ _
    (list-over ts (plan_terms (cell_of ts c.args.held.now.cells.now) c.args.size) [] c.loop-plan.found c.find_of.new.found c.args.plans.now c.loop-plan.plan-index c.args.held.now.limit c.plan-item.result (omega (arith, c.loop-plan-test.true)) c.plan-item.is c.loop-plan.invariant)
    c.in_err-find_of.ensures.over)
