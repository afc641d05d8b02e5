use Rattle.std.proofs.Common.{◌≡◌, ◌↔◌, ◌∙◌, ap, sym, subst, ℕ, List, Bor, Bool}
use Rattle.std.specs.Prelude.{IsTrue}
use Rattle.cls_base.specs.Types.{ClosedType}
use Rattle.cls_base.specs.Taxonomies.{Variance}
use Rattle.cls_base.specs.Ty.{type_of}
use Rattle.cls_base.specs.Taxa.{Below}
use Rattle.cls_base.specs.Subtyping.{Subtype}
use Rattle.cls_path.specs.Laws.{IsPartialOrder}
use Rattle.cls_base.specs.declared.ty.Ty.{Ty}
use Rattle.cls_path.specs.Paths.{Paths, PathsLe, append, paths_of}
use Rattle.cls_path.proofs.PathLaws.{derivations_are_decided}
use Rattle.cls_norm.specs.Subtypes.{paths_of_all}
use Rattle.cls_norm.proofs.subtypes.subtype.Goals as goal

-- what is answered of the pieces is answered of the type
decided :
    (test : ℕ → ℕ → Bool) (v : ℕ → Variance) → IsPartialOrder (Below test) → (s u : ClosedType) (pieces : List (Bor Ty)) (answer : Bool)
    → paths_of_all v pieces ≡ paths_of v s → IsTrue answer ↔ PathsLe (Below test) v (paths_of_all v pieces) (paths_of v u)
    → IsTrue answer ↔ Subtype (Below test) v s u
decided test v order s u pieces answer e f =
    let exact = derivations_are_decided test v order s u in
    let m = paths_of v u in (
      (λ h. exact.1 (subst (λ (x : Paths). PathsLe (Below test) v x m) e (f.0 h))),
      (λ d. f.1 (subst (λ (x : Paths). PathsLe (Below test) v x m) (sym e) (exact.0 d))),
    )

pub returns-then-matches : goal.returns-then-matches
returns-then-matches g c =
    let b = Below (g.T.Taxa.is_below c.args.taxa.now) in
    let v = g.T.Taxa.variance_of_name c.args.taxa.now in
    let met = g.met.T.Taxa in
    let order : IsPartialOrder b = record { reflexive = met.reflexive c.args.taxa.now; transitive = met.transitive c.args.taxa.now; antisymmetric = met.antisymmetric c.args.taxa.now } in
    let n = paths_of v (type_of c.args.lower.now) in
    let e : paths_of_all v c.deref.result.now ≡ n =
    ap (paths_of_all v) c.deref.ensures.value ∙ (c.in_ok-put_pieces.ensures v ∙ ap (λ (l : List (Bor Ty)). append (paths_of_all v l) n) c.new-pieces.ensures.items) in
    decided (g.T.Taxa.is_below c.args.taxa.now) v order (type_of c.args.lower.now) (type_of c.args.upper.now) c.deref.result.now _ e c.in_ok-are_below_wide.ensures

pub returns : goal.returns
returns g c =
    let b = Below (g.T.Taxa.is_below c.args.taxa.now) in
    let v = g.T.Taxa.variance_of_name c.args.taxa.now in
    let met = g.met.T.Taxa in
    let order : IsPartialOrder b = record { reflexive = met.reflexive c.args.taxa.now; transitive = met.transitive c.args.taxa.now; antisymmetric = met.antisymmetric c.args.taxa.now } in
    let n = paths_of v (type_of c.args.lower.now) in
    let e : paths_of_all v c.deref-2.result.now ≡ n =
    ap (paths_of_all v) c.deref-2.ensures.value ∙ (c.in_ok-put_pieces.ensures v ∙ ap (λ (l : List (Bor Ty)). append (paths_of_all v l) n) c.new-pieces.ensures.items) in
    decided (g.T.Taxa.is_below c.args.taxa.now) v order (type_of c.args.lower.now) (type_of c.args.upper.now) c.deref-2.result.now _ e c.in_ok-are_below.ensures
