use Rattle.std.proofs.Common.{refl, sym, ◌∙◌, subst, List, Bor}
use Rattle.std.proofs.lemmas.List.{drop_all}
use Rattle.std.proofs.lemmas.Bool.{false≢true}
use Rattle.cls_base.specs.Taxa.{Below}
use Rattle.cls_base.specs.declared.ty.Ty.{Ty}
use Rattle.cls_path.specs.Paths.{PathsLe, empty}
use Rattle.cls_norm.specs.Subtypes.{paths_of_all}
use Rattle.cls_norm.proofs.Several.{le_at, le_from}
use Rattle.cls_norm.proofs.wide.are_below_each.Goals as goal

pub returns-then-not-branch : goal.returns-then-not-branch
returns-then-not-branch g c =
    let b = Below (g.T.Taxa.is_below c.args.taxa.now) in
    let v = g.T.Taxa.variance_of_name c.args.taxa.now in
    let n = paths_of_all v c.args.lowers.now in (
      (λ h. absurd (false≢true h)),
      (λ l. absurd (false≢true (sym c.if-not-branch.true ∙ c.in_ok-are_below_one.ensures.1 (le_at b v n c.args.uppers.now c.loop-upper.upper-index c.upper-item.result c.loop-upper-test.true c.upper-item.is l)))),
    )

pub loop-upper-preserved : goal.loop-upper-preserved
loop-upper-preserved g c =
    let b = Below (g.T.Taxa.is_below c.args.taxa.now) in
    let v = g.T.Taxa.variance_of_name c.args.taxa.now in
    let n = paths_of_all v c.args.lowers.now in
    λ l. c.loop-upper.invariant (le_from b v n c.args.uppers.now c.loop-upper.upper-index c.upper-item.result c.loop-upper-test.true c.upper-item.is (c.in_ok-are_below_one.ensures.0 c.if-not-branch.false) l)

pub returns : goal.returns
returns g c =
    let b = Below (g.T.Taxa.is_below c.args.taxa.now) in
    let v = g.T.Taxa.variance_of_name c.args.taxa.now in
    let n = paths_of_all v c.args.lowers.now in
    let e = drop_all c.loop-upper.upper-index c.args.uppers.now c.loop-upper-test.false in
    ((λ h. c.loop-upper.invariant (subst (λ (l : List (Bor Ty)). PathsLe b v n (paths_of_all v l)) (sym e) empty)), (λ l. refl))
