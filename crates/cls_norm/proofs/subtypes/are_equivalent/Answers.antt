use Rattle.std.proofs.Common.{◌≡◌, sym, ◌∙◌, ap, subst, refl}
use Rattle.std.specs.Ordering.{is_eq}
use Rattle.cls_base.specs.Types.{ClosedType}
use Rattle.cls_base.specs.Ty.{type_of}
use Rattle.cls_base.specs.Taxa.{Below}
use Rattle.cls_base.specs.Subtyping.{Subtype, reflexivity}
use Rattle.cls_path.specs.Paths.{listed}
use Rattle.cls_path.specs.Laws.{IsPartialOrder}
use Rattle.cls_path.proofs.PathLaws.{forms_are_exact}
use Rattle.cls_norm.proofs.Uppers.{equal_of, listed_same}
use Rattle.cls_norm.proofs.subtypes.are_equivalent.Goals as goal

pub returns-then-is_eq : goal.returns-then-is_eq
returns-then-is_eq g c =
    let b = Below (g.T.Taxa.is_below c.args.taxa.now) in
    let v = g.T.Taxa.variance_of_name c.args.taxa.now in
    let s = type_of c.args.one.now in
    let e : s ≡ type_of c.args.other.now = c.order.ensures.equal.0 (equal_of c.order.result (sym c.is_eq.ensures ∙ c.if-is_eq.true)) in
    ((λ h. (subst (λ (t : ClosedType). Subtype b v s t) e reflexivity, subst (λ (t : ClosedType). Subtype b v t s) e reflexivity)), (λ h. refl))

pub returns : goal.returns
returns g c =
    let b = g.T.Taxa.is_below c.args.taxa.now in
    let v = g.T.Taxa.variance_of_name c.args.taxa.now in
    let met = g.met.T.Taxa in
    let order : IsPartialOrder (Below b) = record { reflexive = met.reflexive c.args.taxa.now; transitive = met.transitive c.args.taxa.now; antisymmetric = met.antisymmetric c.args.taxa.now } in
    let n = c.in_ok-one.one in
    let m = c.in_ok-other.other in
    let same = forms_are_exact b v order (type_of c.args.one.now) (type_of c.args.other.now) (listed n) (listed m) c.in_ok-one.ensures.form c.in_ok-other.ensures.form in (
      (λ h. same.1 (ap listed (c.order-2.ensures.equal.0 (equal_of c.order-2.result (sym c.is_eq-2.ensures ∙ h))))),
      (λ d. c.is_eq-2.ensures ∙ ap is_eq (c.order-2.ensures.equal.1 (listed_same n m (same.0 d)))),
    )
