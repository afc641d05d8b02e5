use Rattle.std.proofs.Common.{ℕ, List, sym, subst}
use Rattle.std.specs.Prelude.{OnOk, IfErr}
use Rattle.cls_filtered.specs.declared.step.Step.{Step}
use Rattle.cls_filtered.specs.Faults.{IfTooManyRules}
use Rattle.cls_filtered.specs.Filtered.{state_rules}
use Rattle.cls_filtered.specs.StepBooks.{step_rule}
use Rattle.cls_filtered.specs.Makings.{IsMade, IsTooMuch, applications}
use Rattle.cls_filtered.proofs.making.Making.follow.Goals as goal

pub returns-in-Component-clause-ok : goal.returns-in-Component-clause-ok
returns-in-Component-clause-ok c =
    subst (λ (q : Step). OnOk c.follow_leaf.result (IsMade (state_rules c.args.filter.now c.args.kept.now c.args.state (step_rule q)) c.args.self.now c.follow_leaf.new.self)) (sym c.in-Component.is) c.follow_leaf.ensures.ok

pub returns-in-Component-clause-large : goal.returns-in-Component-clause-large
returns-in-Component-clause-large c =
    subst (λ (q : Step). IfErr c.follow_leaf.result (λ fault. IfTooManyRules fault (IsTooMuch (state_rules c.args.filter.now c.args.kept.now c.args.state (step_rule q)) c.args.self.now))) (sym c.in-Component.is) c.follow_leaf.ensures.large

pub returns-in-Application-clause-ok : goal.returns-in-Application-clause-ok
returns-in-Application-clause-ok c =
    subst (λ (q : Step). OnOk c.apply.result (IsMade (state_rules c.args.filter.now c.args.kept.now c.args.state (step_rule q)) c.args.self.now c.apply.new.self)) (sym c.in-Application.is)
    (subst (λ (ps : List (ℕ × ℕ)). OnOk c.apply.result (IsMade (applications c.args.kept.now c.in-Application.left c.in-Application.right ps) c.args.self.now c.apply.new.self)) c.requires c.apply.ensures.ok)

pub returns-in-Application-clause-large : goal.returns-in-Application-clause-large
returns-in-Application-clause-large c =
    subst (λ (q : Step). IfErr c.apply.result (λ fault. IfTooManyRules fault (IsTooMuch (state_rules c.args.filter.now c.args.kept.now c.args.state (step_rule q)) c.args.self.now))) (sym c.in-Application.is)
    (subst (λ (ps : List (ℕ × ℕ)). IfErr c.apply.result (λ fault. IfTooManyRules fault (IsTooMuch (applications c.args.kept.now c.in-Application.left c.in-Application.right ps) c.args.self.now))) c.requires c.apply.ensures.large)
