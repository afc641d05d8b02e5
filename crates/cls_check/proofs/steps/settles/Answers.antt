use Rattle.std.proofs.Common.{sym, ◌∙◌}
use Rattle.cls_check.proofs.KnownSets.{settled_more}
use Rattle.cls_check.proofs.Loops.{not-false, is-true, differs}
use Rattle.cls_check.proofs.steps.settles.Goals as goal

pub returns-then-branch-clause-settled : goal.returns-then-branch-clause-settled
returns-then-branch-clause-settled c = ((λ t. c.requires.kept c.args.set.now (c.in_ok-has.ensures.0 c.if-branch.true)), (λ h. is-true))

pub returns-then-not-branch-clause-settled : goal.returns-then-not-branch-clause-settled
returns-then-not-branch-clause-settled c = ((λ t. absurd (not-false t)), (λ h. absurd (differs (sym c.if-not-branch.true ∙ c.in_ok-is_settled.ensures.settled.1 h))))

pub returns-clause-settled : goal.returns-clause-settled
returns-clause-settled c = ((λ t. c.in_ok-is_settled.ensures.settled.0 c.if-not-branch.false), (λ h. is-true))

pub returns-clause-kept : goal.returns-clause-kept
returns-clause-kept c =
    settled_more c.args.lib.now c.args.goals.now c.args.kept.now c.put.new.self c.args.place c.args.set.now c.in_ok-put.ensures c.args.family.now c.args.layer.now c.requires.kept (c.in_ok-is_settled.ensures.settled.0 c.if-not-branch.false)
