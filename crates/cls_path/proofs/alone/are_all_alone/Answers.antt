use Rattle.std.proofs.Common.{◌≡◌, ◌+◌, [], ◌∷◌, drop, sym, ap, subst, ◌∙◌, arith}
use Rattle.std.specs.List.{AllByRecursion}
use Rattle.std.proofs.lemmas.List.{drop_more, drop_all}
use Rattle.cls_base.specs.Taxa.{Below}
use Rattle.cls_path.specs.Labels.{AreAlone}
use Rattle.cls_path.proofs.alone.are_all_alone.Goals as goal

pub loop-path-preserved : goal.loop-path-preserved
loop-path-preserved g c = λ rest.
    let b = Below (g.T.Taxa.is_below c.args.taxa.now) in
    let n = c.args.paths.now in
    let i = c.loop-path.path-index in
    let p = c.path-item.result in
    let e : drop i n ≡ p ∷ drop (i + 1) n = drop_more n i p c.loop-path-test.true ∙ ap (λ x. x ∷ drop (i + 1) n) (sym c.path-item.is) in
    c.loop-path.invariant (subst (λ l. AllByRecursion (AreAlone b) l) (sym e) (c.are_alone.ensures c.if-not-are_alone.false, rest))

pub returns : goal.returns
returns g c =
    let b = Below (g.T.Taxa.is_below c.args.taxa.now) in
    let n = c.args.paths.now in
    let none : drop c.loop-path.path-index n ≡ [] = drop_all c.loop-path.path-index n (omega (arith, c.loop-path-test.false)) in
    λ _. c.loop-path.invariant (subst (λ l. AllByRecursion (AreAlone b) l) (sym none) tt)
