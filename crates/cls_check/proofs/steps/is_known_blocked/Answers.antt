use Rattle.std.proofs.Common.{sym, ◌∙◌}
use Rattle.cls_check.proofs.KnownSets.{stopped_more}
use Rattle.cls_check.proofs.Loops.{not-false, is-true, differs}
use Rattle.cls_check.proofs.steps.is_known_blocked.Goals as goal

pub returns-then-branch-clause-blocked : goal.returns-then-branch-clause-blocked
returns-then-branch-clause-blocked c = ((λ t. c.requires.known.sets c.args.place c.args.set.now (c.in_ok-has.ensures.0 c.if-branch.true)), (λ h. is-true))

pub returns-then-not-branch-clause-blocked : goal.returns-then-not-branch-clause-blocked
returns-then-not-branch-clause-blocked c = ((λ t. absurd (not-false t)), (λ h. absurd (differs (sym c.if-not-branch.true ∙ c.in_ok-is_blocked.ensures.blocked.1 h))))

pub returns-clause-blocked : goal.returns-clause-blocked
returns-clause-blocked c = ((λ t. c.in_ok-is_blocked.ensures.blocked.0 c.if-not-branch.false), (λ h. is-true))

pub returns-clause-known : goal.returns-clause-known
returns-clause-known c =
    let r = c.in_ok-is_blocked.ensures.known in
    record {
      sets = stopped_more c.args.lib.now c.args.goals.now c.is_blocked.new.known.sets c.put.new.self c.args.place c.args.set.now c.in_ok-put.ensures r.sets (c.in_ok-is_blocked.ensures.blocked.0 c.if-not-branch.false);
      below = r.below;
      free = r.free;
    }
