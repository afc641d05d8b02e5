use Rattle.std.proofs.Common.{◌≡◌, ◌<◌, [], ◌∷◌, ◌++◌, length, sym, ap, subst, ◌∙◌, arith}
use Rattle.std.specs.Prelude.{Contains}
use Rattle.cls_path.specs.Groups.{IsCleared}
use Rattle.cls_path.specs.Insertion.{without_above}
use Rattle.cls_path.proofs.Clearing.{cleared_self, cleared_by}
use Rattle.cls_path.proofs.clear.cleared.Goals as goal

pub low_path-requires : goal.low_path-requires
low_path-requires g c =
    let some : 0 < length c.args.paths.items = omega (arith, c.len.ensures, c.if-len-le1.false) in
    subst (λ l. 0 < length l) (sym c.deref.ensures.value) some

pub returns-then-len-le1 : goal.returns-then-len-le1
returns-then-len-le1 g c =
    let t = c.args.taxa.now in
    let met = g.met.T.Taxa in
    cleared_self (g.T.Taxa.is_below t) (g.T.Taxa.variance_of_name t) (met.reflexive t) (met.transitive t) (met.one_variance t) c.args.paths.items c.requires

pub returns : goal.returns
returns g c =
    let t = c.args.taxa.now in
    let b = g.T.Taxa.is_below t in
    let v = g.T.Taxa.variance_of_name t in
    let met = g.met.T.Taxa in
    let n = c.args.paths.items in
    let p = c.in_ok-path.path in
    let there : Contains n p = subst (λ l. Contains l p) c.deref.ensures.value c.in_ok-path.ensures in
    let e : c.push.new.self.items ≡ without_above b v p n ++ p ∷ [] = c.in_ok-push.ensures.items ∙ ap (λ l. l ++ p ∷ []) c.remove_above.ensures in
    subst (λ m. IsCleared b v n m) (sym e) (cleared_by b v (met.reflexive t) (met.transitive t) (met.one_variance t) p n there c.requires)
