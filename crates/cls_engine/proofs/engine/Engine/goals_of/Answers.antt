use Rattle.std.proofs.Common.{rules, ◌≤◌, List, length, map, subst}
use Rattle.std.specs.List.{AllZip}
use Rattle.cls_base.specs.Ty.{type_of}
use Rattle.cls_base.specs.declared.ty.Ty.{Ty}
use Rattle.cls_base.proofs.Lists.{take_whole}
use Rattle.cls_engine.specs.Batching.{IsFitGoalOf}
use Rattle.cls_engine.proofs.BatchFaults.{goals-more, oversized-among}
use Rattle.cls_engine.proofs.engine.Engine.goals_of.Goals as goal

pub loop-ty-preserved : goal.loop-ty-preserved
loop-ty-preserved c =
    let goal = c.in_ok-goal.ensures in
    goals-more c.args.self.now.library c.args.types.now c.loop-ty.ty-index c.ty-item.result c.loop-ty.goals.items c.put.new.goals.items c.in_ok-goal.goal
    c.loop-ty-test.true c.ty-item.is c.loop-ty.invariant (record { goal = goal.goal; ready = goal.ready; narrow = goal.narrow }) c.in_ok-put.ensures

pub returns-in_err-goal-clause-size : goal.returns-in_err-goal-clause-size
returns-in_err-goal-clause-size c =
    let h = oversized-among c.args.self.now.library c.args.types.now c.loop-ty.ty-index c.ty-item.result c.loop-ty-test.true c.ty-item.is
    c.in_err-goal.field-0.0 c.in_err-goal.ensures.size in
    search (rules, h)

pub returns-clause-goals : goal.returns-clause-goals
returns-clause-goals c =
    let past : length c.args.types.now ≤ c.loop-ty.ty-index = c.loop-ty-test.false in
    subst (λ (types : List Ty). AllZip (IsFitGoalOf c.args.self.now.library) (map type_of types) c.loop-ty.goals.items)
    (take_whole c.args.types.now c.loop-ty.ty-index past) c.loop-ty.invariant
