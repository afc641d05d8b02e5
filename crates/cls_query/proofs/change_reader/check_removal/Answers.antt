use Rattle.std.proofs.Common.{ℕ, List, ◌++◌, sym, subst}
use Rattle.std.specs.Prelude.{codes}
use Rattle.cls_base.specs.Firsts.{First}
use Rattle.cls_query.specs.ChangeSteps.{naming_errors}
use Rattle.cls_query.proofs.ChangeErrors.{unknown_said, removal_silent}
use Rattle.cls_query.proofs.change_reader.check_removal.Goals as goal

pub returns-in-Some-clause-tested : goal.returns-in-Some-clause-tested
returns-in-Some-clause-tested c line says =
    subst (λ (x : List ℕ). First (naming_errors line c.args.components.now) (codes "unknown " ++ x)) (sym c.in-Some.ensures.1)
    (unknown_said line c.args.components.now c.args.component.now says c.in-Some.ensures.0)

pub returns-in-None-clause-tested : goal.returns-in-None-clause-tested
returns-in-None-clause-tested c line says = removal_silent line c.args.components.now c.args.component.now says c.in-None.ensures
