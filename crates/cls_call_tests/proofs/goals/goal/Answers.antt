use Rattle.std.proofs.Common.{rules, subst}
use Rattle.cls_base.specs.Ty.{type_of}
use Rattle.cls_taxon.specs.Orders.{Declared}
use Rattle.cls_path.specs.NormalForms.{IsNormalForm}
use Rattle.cls_path.specs.Paths.{listed, type_of_paths}
use Rattle.cls_norm.specs.Fit.{IsFit}
use Rattle.cls_library.specs.Libraries.{below_in, variances_in}
use Rattle.cls_call_tests.proofs.goals.goal.Goals as goal

pub returns : goal.returns
returns c =
    let form = subst (λ (d : Declared). IsNormalForm (below_in d) (variances_in d) (type_of c.in_ok-ty.ty) (listed c.in_ok-goal.goal)) c.taxonomy.ensures c.in_ok-goal.ensures.form in
    let fit : IsFit (type_of_paths (listed c.in_ok-goal.goal)) = search rules in
    record { library = c.count-count.ensures.library; normal = form.normal; fit = fit }
