use Rattle.std.proofs.Common.{rules, ◌≡◌, sym, ◌∙◌, ap, ◌⊎◌, inl, inr}
use Rattle.cls_base.specs.Types.{omega}
use Rattle.cls_base.specs.Taxa.{Below, variance_of}
use Rattle.cls_base.specs.Taxonomies.{covariant, contravariant, invariant}
use Rattle.cls_path.specs.Paths.{none, empty}
use Rattle.cls_path.specs.NormalForms.{IsNormalForm}
use Rattle.cls_path.proofs.TypeParts.{omega_paths, name_paths, sealed_paths}
use Rattle.cls_norm.proofs.paths.alone.Goals as goal

pub returns-in-Co : goal.returns-in-Co
returns-in-Co g c =
    let b = Below (g.T.Taxa.is_below c.args.taxa.now) in
    let v = g.T.Taxa.variance_of_name c.args.taxa.now in
    let one = g.met.T.Taxa.reflexive c.args.taxa.now in
    let through = g.met.T.Taxa.transitive c.args.taxa.now in
    let k : v c.args.name.0 ≡ covariant = search rules in
    rw c.atom.ensures (name_paths b v one through c.args.name.0 omega none k (omega_paths b v one through))

pub returns-in_ok-sealed-in-Contra : goal.returns-in_ok-sealed-in-Contra
returns-in_ok-sealed-in-Contra g c =
    let b = Below (g.T.Taxa.is_below c.args.taxa.now) in
    let v = g.T.Taxa.variance_of_name c.args.taxa.now in
    let one = g.met.T.Taxa.reflexive c.args.taxa.now in
    let through = g.met.T.Taxa.transitive c.args.taxa.now in
    let name = c.args.name.0 in
    let f : IsNormalForm b v omega none = record { normal = record { suits = tt; canonical = tt }; lower = empty; upper = empty } in
    let w : (v name ≡ contravariant) ⊎ (v name ≡ invariant) = elim c.in-Contra.is [ inl e ↦ inl (sym c.variance.ensures.is ∙ ap variance_of e) | inr e ↦ inr (sym c.variance.ensures.is ∙ ap variance_of e) ] in
    rw (c.in_ok-sealed-in-Contra.ensures, c.empty.ensures) (sealed_paths b v one through name omega none w f)
