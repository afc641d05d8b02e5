use Rattle.std.proofs.Common.{sym, subst}
use Rattle.std.specs.Prelude.{OnOk}
use Rattle.cls_filtered.specs.declared.step.Step.{Step}
use Rattle.cls_filtered.specs.StepBooks.{step_rule}
use Rattle.cls_filtered.specs.States.{Follows}
use Rattle.cls_filtered.proofs.states.States.follow.Goals as goal

pub returns-in-Component : goal.returns-in-Component
returns-in-Component c =
    subst (λ (q : Step). OnOk c.follow_leaf.result (Follows c.args.filter.now c.args.node (step_rule q) c.args.self.now c.follow_leaf.new.self)) (sym c.in-Component.is) c.follow_leaf.ensures

pub returns-in-Application : goal.returns-in-Application
returns-in-Application c =
    subst (λ (q : Step). OnOk c.apply.result (Follows c.args.filter.now c.args.node (step_rule q) c.args.self.now c.apply.new.self)) (sym c.in-Application.is) c.apply.ensures
