use Rattle.std.proofs.Common.{subst}
use Rattle.std.proofs.lemmas.List.{take_all}
use Rattle.cls_finite.specs.Walks.{Leads, stays}
use Rattle.cls_finite.proofs.Stepping.{leads-more, wrong-goal, wrong-step}
use Rattle.cls_finite.proofs.right.last_goal.Goals as goal

pub loop-step-init : goal.loop-step-init
loop-step-init g c = stays

pub returns-then-step-goal-clause-none : goal.returns-then-step-goal-clause-none
returns-then-step-goal-clause-none g c = wrong-goal (g.B.RuleBook.book c.args.book.now) c.args.steps.now c.loop-step.step-index c.loop-step.goal _ c.loop-step-test.true c.loop-step.invariant c.if-step-goal.true

pub returns-in_default-clause-none : goal.returns-in_default-clause-none
returns-in_default-clause-none g c = wrong-step (g.B.RuleBook.book c.args.book.now) c.args.steps.now c.loop-step.step-index c.loop-step.goal _ c.loop-step-test.true c.loop-step.invariant c.in_default.ensures.none

pub loop-step-preserved : goal.loop-step-preserved
loop-step-preserved g c = leads-more (g.B.RuleBook.book c.args.book.now) c.args.steps.now c.loop-step.step-index c.loop-step.goal c.in-Some.next _ c.loop-step-test.true c.loop-step.invariant c.if-step-goal.false c.in-Some.ensures.some

pub returns-clause-some : goal.returns-clause-some
returns-clause-some g c = subst (λ l. Leads (g.B.RuleBook.book c.args.book.now) 0 l c.loop-step.goal) (take_all c.loop-step.step-index c.args.steps.now c.loop-step-test.false) c.loop-step.invariant
