use Rattle.std.proofs.Common.{sym, ◌∙◌}
use Rattle.cls_check.proofs.KnownSets.{meets_more}
use Rattle.cls_check.proofs.Loops.{not-false, is-true, differs}
use Rattle.cls_check.proofs.rows.is_known_to_meet.Goals as goal

pub returns-then-branch-clause-meets : goal.returns-then-branch-clause-meets
returns-then-branch-clause-meets c = ((λ t. c.requires.known.covers c.args.place c.args.positions.now (c.in_ok-has.ensures.0 c.if-branch.true)), (λ h. is-true))

pub returns-then-not-branch-clause-meets : goal.returns-then-not-branch-clause-meets
returns-then-not-branch-clause-meets c = ((λ t. absurd (not-false t)), (λ h. absurd (differs (sym c.if-not-branch.true ∙ c.in_ok-meets_arguments.ensures.meets.1 h))))

pub returns-clause-meets : goal.returns-clause-meets
returns-clause-meets c = ((λ t. c.in_ok-meets_arguments.ensures.meets.0 c.if-not-branch.false), (λ h. is-true))

pub returns-clause-known : goal.returns-clause-known
returns-clause-known c =
    let r = c.in_ok-meets_arguments.ensures.known in
    record {
      covers = meets_more c.args.lib.now c.args.goals.now c.meets_arguments.new.known.covers c.put.new.self c.args.place c.args.positions.now c.in_ok-put.ensures r.covers (c.in_ok-meets_arguments.ensures.meets.0 c.if-not-branch.false);
      above = r.above;
    }
