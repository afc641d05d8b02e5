use Rattle.std.proofs.Common.{◌≡◌, ◌+◌, ◌<◌, [], ◌∷◌, drop, sym, ap, subst, ◌∙◌, arith}
use Rattle.std.proofs.lemmas.List.{drop_more, drop_all}
use Rattle.cls_path.specs.Labels.{head_of}
use Rattle.cls_path.proofs.RisingHeads.{Rises, rising_apart}
use Rattle.cls_path.proofs.few.have_rising_heads.Goals as goal

pub loop-path-preserved : goal.loop-path-preserved
loop-path-preserved g c = λ rest.
    let f = g.T.Taxa.class c.args.taxa.now in
    let n = c.args.paths.now in
    let i = c.loop-path.path-index in
    let p = c.path-item.result in
    let e : drop i n ≡ p ∷ drop (i + 1) n = drop_more n i p c.loop-path-test.true ∙ ap (λ x. x ∷ drop (i + 1) n) (sym c.path-item.is) in
    let class : c.head_class-class.result ≡ (head_of f p).low = c.head_class-class.ensures in
    let above : c.loop-path.last < (head_of f p).low = subst (λ k. c.loop-path.last < k) class c.if-class-last.false in
    c.loop-path.invariant (subst (λ l. Rises f c.loop-path.last l) (sym e)
    (above, subst (λ k. Rises f k (drop (i + 1) n)) class rest))

pub returns : goal.returns
returns g c =
    let t = c.args.taxa.now in
    let f = g.T.Taxa.class t in
    let met = g.met.T.Taxa in
    let n = c.args.paths.now in
    let none : drop c.loop-path.path-index n ≡ [] = drop_all c.loop-path.path-index n (omega (arith, c.loop-path-test.false)) in
    let all : Rises f 0 n = c.loop-path.invariant (subst (λ l. Rises f c.loop-path.last l) (sym none) tt) in
    λ _. rising_apart f (g.T.Taxa.is_below t) (g.T.Taxa.variance_of_name t) (met.reflexive t) (met.transitive t) (met.one_variance t) (met.one_class t) 0 n c.requires all
