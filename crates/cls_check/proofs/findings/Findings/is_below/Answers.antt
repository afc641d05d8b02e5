use Rattle.std.proofs.Common.{sym, ◌∙◌, List}
use Rattle.cls_path.specs.Paths.{TypePath, listed, type_of_paths}
use Rattle.cls_check.specs.Goals.{IsBelowGoal}
use Rattle.cls_check.proofs.KnownSets.{holds_more}
use Rattle.cls_check.proofs.Loops.{not-false, is-true, differs}
use Rattle.cls_check.proofs.findings.Findings.is_below.Goals as goal

pub returns-then-has-clause-below : goal.returns-then-has-clause-below
returns-then-has-clause-below c = ((λ t. c.requires.right.below c.args.nf.now (c.has.ensures.0 c.if-has.true)), (λ h. is-true))

pub returns-then-not-branch-clause-below : goal.returns-then-not-branch-clause-below
returns-then-not-branch-clause-below c = ((λ t. absurd (not-false t)), (λ h. absurd (differs (sym c.if-not-branch.true ∙ c.in_ok-is_found_below.ensures.below.1 h))))

pub returns-clause-below : goal.returns-clause-below
returns-clause-below c = ((λ t. c.in_ok-is_found_below.ensures.below.0 c.if-not-branch.false), (λ h. is-true))

pub returns-clause-right : goal.returns-clause-right
returns-clause-right c =
    let r = c.in_ok-is_found_below.ensures.right in
    let P : List TypePath → Type 0 = λ g. IsBelowGoal c.args.lib.now c.args.goals.now (type_of_paths (listed g)) in
    record {
      sets = r.sets;
      below = holds_more P c.is_found_below.new.self.below c.keep.new.table c.args.nf.now c.in_ok-keep.ensures r.below (c.in_ok-is_found_below.ensures.below.0 c.if-not-branch.false);
      free = r.free;
    }
