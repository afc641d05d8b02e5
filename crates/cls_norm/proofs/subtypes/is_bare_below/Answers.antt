use Rattle.std.proofs.Common.{◌≡◌, refl, sym, ◌∙◌, ap, inl, inr}
use Rattle.cls_base.specs.Types.{omega}
use Rattle.cls_base.specs.Ty.{type_of}
use Rattle.cls_base.specs.Taxa.{Below, variance_of}
use Rattle.cls_base.specs.Taxonomies.{contravariant, invariant}
use Rattle.cls_path.specs.Laws.{IsPartialOrder}
use Rattle.cls_path.specs.Paths.{empty, paths_of}
use Rattle.cls_path.proofs.PathLaws.{derivations_are_decided}
use Rattle.cls_norm.proofs.Uppers.{not_covariant, contra_decides, inv_decides}
use Rattle.cls_norm.proofs.subtypes.is_bare_below.Goals as goal

pub returns-in_ok-are_equivalent-in-Inv : goal.returns-in_ok-are_equivalent-in-Inv
returns-in_ok-are_equivalent-in-Inv g c =
    let b = Below (g.T.Taxa.is_below c.args.taxa.now) in
    let v = g.T.Taxa.variance_of_name c.args.taxa.now in
    let m = paths_of v (type_of c.args.argument.now) in
    let d = c.args.name.0 in
    let met = g.met.T.Taxa in
    let l : b c.args.bare.0 d = sym c.below.ensures.is ∙ c.if-not-below.false in
    let order : IsPartialOrder b = record { reflexive = met.reflexive c.args.taxa.now; transitive = met.transitive c.args.taxa.now; antisymmetric = met.antisymmetric c.args.taxa.now } in
    let exact = derivations_are_decided (g.T.Taxa.is_below c.args.taxa.now) v order in
    let w : v d ≡ invariant = sym c.variance.ensures.is ∙ ap variance_of c.in-Inv.is in
    let u = type_of c.args.argument.now in
    let k = inv_decides b v c.args.bare.0 d omega m (met.one_variance c.args.taxa.now c.args.bare.0 d l ∙ w) w l in
    let e = c.in_ok-are_equivalent-in-Inv.ensures in (
      (λ h. let r = e.0 h in k.0 ((exact omega u).0 r.0, (exact u omega).0 r.1)),
      (λ o. let r = k.1 o in e.1 ((exact omega u).1 r.0, (exact u omega).1 r.1)),
    )

pub returns-in-Co : goal.returns-in-Co
returns-in-Co g c =
    let b = Below (g.T.Taxa.is_below c.args.taxa.now) in
    let v = g.T.Taxa.variance_of_name c.args.taxa.now in
    let m = paths_of v (type_of c.args.argument.now) in
    let d = c.args.name.0 in
    let met = g.met.T.Taxa in
    let l : b c.args.bare.0 d = sym c.below.ensures.is ∙ c.if-not-below.false in
    let w : v d ≡ contravariant = elim c.in-Co.is [
      | inl e ↦ absurd (not_covariant (v d) c.requires (ap variance_of (sym e) ∙ c.variance.ensures.is))
      | inr e ↦ sym c.variance.ensures.is ∙ ap variance_of e
    ] in
    let k = contra_decides b v c.args.bare.0 d omega m (met.one_variance c.args.taxa.now c.args.bare.0 d l ∙ w) w l in
    ((λ h. k.0 empty), (λ o. refl))
