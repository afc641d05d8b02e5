use Rattle.std.proofs.Common.{sym, ◌∙◌, List}
use Rattle.cls_path.specs.Paths.{TypePath, listed, type_of_paths}
use Rattle.cls_check.specs.Goals.{IsBelowGoal}
use Rattle.cls_check.proofs.KnownSets.{holds_more}
use Rattle.cls_check.proofs.Loops.{not-false, is-true, differs}
use Rattle.cls_check.proofs.findings.Findings.is_found_below.Goals as goal

pub returns-then-has-clause-below : goal.returns-then-has-clause-below
returns-then-has-clause-below c = ((λ t. absurd (not-false t)), (λ h. absurd (c.requires.right.free c.args.nf.now (c.has.ensures.0 c.if-has.true) h)))

pub returns-then-any_above-clause-below : goal.returns-then-any_above-clause-below
returns-then-any_above-clause-below c = ((λ t. c.any_above.ensures.0 c.if-any_above.true), (λ h. is-true))

pub returns-clause-below : goal.returns-clause-below
returns-clause-below c = ((λ t. absurd (not-false t)), (λ h. absurd (differs (sym c.if-any_above.false ∙ c.any_above.ensures.1 h))))

pub returns-clause-right : goal.returns-clause-right
returns-clause-right c =
    let r = c.requires.right in
    let P : List TypePath → Type 0 = λ g. IsBelowGoal c.args.lib.now c.args.goals.now (type_of_paths (listed g)) → ⊥ in
    record {
      sets = r.sets;
      below = r.below;
      free = holds_more P c.args.self.now.free c.keep.new.table c.args.nf.now c.in_ok-keep.ensures r.free (λ h. differs (sym c.if-any_above.false ∙ c.any_above.ensures.1 h));
    }
