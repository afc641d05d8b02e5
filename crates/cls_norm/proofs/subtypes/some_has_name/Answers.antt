use Rattle.std.proofs.Common.{refl, sym, ◌∙◌, subst, List, Bor}
use Rattle.std.proofs.lemmas.List.{drop_all}
use Rattle.std.proofs.lemmas.Bool.{false≢true}
use Rattle.cls_base.specs.Taxa.{Below}
use Rattle.cls_base.specs.declared.ty.Ty.{Ty}
use Rattle.cls_path.specs.Paths.{atom, SomeLe}
use Rattle.cls_norm.specs.Subtypes.{paths_of_all}
use Rattle.cls_norm.proofs.Uppers.{some_at, none_at, nowhere}
use Rattle.cls_norm.proofs.subtypes.some_has_name.Goals as goal

pub returns-then-has_name : goal.returns-then-has_name
returns-then-has_name g c =
    let b = Below (g.T.Taxa.is_below c.args.taxa.now) in
    let v = g.T.Taxa.variance_of_name c.args.taxa.now in
    ((λ h. some_at b v c.args.lowers.now c.loop-lower.lower-index c.lower-item.result (atom c.args.name.0) c.loop-lower-test.true c.lower-item.is (c.has_name.ensures.0 c.if-has_name.true)), (λ o. refl))

pub loop-lower-preserved : goal.loop-lower-preserved
loop-lower-preserved g c =
    let b = Below (g.T.Taxa.is_below c.args.taxa.now) in
    let v = g.T.Taxa.variance_of_name c.args.taxa.now in
    λ o. none_at b v c.args.lowers.now c.loop-lower.lower-index c.lower-item.result (atom c.args.name.0) c.loop-lower-test.true c.lower-item.is (λ a. false≢true (sym c.if-has_name.false ∙ c.has_name.ensures.1 a)) (c.loop-lower.invariant o)

pub returns : goal.returns
returns g c =
    let b = Below (g.T.Taxa.is_below c.args.taxa.now) in
    let v = g.T.Taxa.variance_of_name c.args.taxa.now in
    let q = atom c.args.name.0 in
    let e = drop_all c.loop-lower.lower-index c.args.lowers.now c.loop-lower-test.false in
    ((λ h. absurd (false≢true h)), (λ o. absurd (nowhere b v q (subst (λ (l : List (Bor Ty)). SomeLe b v (paths_of_all v l) q) e (c.loop-lower.invariant o)))))
