use Rattle.std.proofs.Common.{sym, ◌∙◌, List}
use Rattle.cls_path.specs.Paths.{TypePath, listed, type_of_paths}
use Rattle.cls_check.specs.Goals.{IsAboveGoal}
use Rattle.cls_check.proofs.KnownSets.{holds_more}
use Rattle.cls_check.proofs.Loops.{not-false, is-true, differs}
use Rattle.cls_check.proofs.met.MetCovers.is_found_above.Goals as goal

pub returns-then-has-clause-above : goal.returns-then-has-clause-above
returns-then-has-clause-above c = ((λ t. c.requires.met.above c.args.nf.now (c.has.ensures.0 c.if-has.true)), (λ h. is-true))

pub returns-then-not-any_below-clause-above : goal.returns-then-not-any_below-clause-above
returns-then-not-any_below-clause-above c = ((λ t. absurd (not-false t)), (λ h. absurd (differs (sym c.if-not-any_below.true ∙ c.any_below.ensures.1 h))))

pub returns-clause-above : goal.returns-clause-above
returns-clause-above c = ((λ t. c.any_below.ensures.0 c.if-not-any_below.false), (λ h. is-true))

pub returns-clause-met : goal.returns-clause-met
returns-clause-met c =
    let r = c.requires.met in
    let P : List TypePath → Type 0 = λ g. IsAboveGoal c.args.lib.now c.args.goals.now (type_of_paths (listed g)) in
    record {
      covers = r.covers;
      above = holds_more P c.args.self.now.above c.keep.new.table c.args.nf.now c.in_ok-keep.ensures r.above (c.any_below.ensures.0 c.if-not-any_below.false);
    }
