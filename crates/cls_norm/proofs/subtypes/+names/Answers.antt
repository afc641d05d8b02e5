use Rattle.std.proofs.Common.{sym, ◌∙◌, inl, inr}
use Rattle.std.proofs.lemmas.Bool.{false≢true}
use Rattle.cls_base.specs.Types.{omega}
use Rattle.cls_base.specs.Ty.{type_of}
use Rattle.cls_base.specs.Taxa.{Below}
use Rattle.cls_path.specs.Paths.{atom, paths_of}
use Rattle.cls_norm.proofs.Steps.{to_append_first, to_append_second, from_append}
use Rattle.cls_norm.proofs.Parts.{name_at}
use Rattle.cls_norm.proofs.Uppers.{other_not_named}
use Rattle.cls_norm.proofs.subtypes.+names.Goals as goal

pub has_name-returns-in-Bare : goal.has_name-returns-in-Bare
has_name-returns-in-Bare g t c =
    let b = Below (g.T.Taxa.is_below c.args.taxa.now) in
    let v = g.T.Taxa.variance_of_name c.args.taxa.now in
    let k = name_at b v (g.met.T.Taxa.one_variance c.args.taxa.now) c.in-Bare.other.0 c.args.name.0 omega c.requires in
    rw c.in-Bare.is ((λ h. k.0 (sym c.below.ensures.is ∙ h)), (λ o. c.below.ensures.is ∙ k.1 o))

pub has_name-returns-in-Con : goal.has_name-returns-in-Con
has_name-returns-in-Con g t c =
    let b = Below (g.T.Taxa.is_below c.args.taxa.now) in
    let v = g.T.Taxa.variance_of_name c.args.taxa.now in
    let k = name_at b v (g.met.T.Taxa.one_variance c.args.taxa.now) c.in-Con.other.0 c.args.name.0 (type_of c.in-Con.field-1.value) c.requires in
    rw c.in-Con.is ((λ h. k.0 (sym c.below-in-Con.ensures.is ∙ h)), (λ o. c.below-in-Con.ensures.is ∙ k.1 o))

pub one_has_name-returns-then-has_name : goal.one_has_name-returns-then-has_name
one_has_name-returns-then-has_name g t c =
    let b = Below (g.T.Taxa.is_below c.args.taxa.now) in
    let v = g.T.Taxa.variance_of_name c.args.taxa.now in
    let n = paths_of v (type_of c.args.first.now) in
    let m = paths_of v (type_of c.args.second.now) in
    ((λ h. to_append_second b v n m (atom c.args.name.0) (c.has_name.ensures.0 c.if-has_name.true)), (λ o. c.if-has_name.true))

pub one_has_name-returns-else-has_name : goal.one_has_name-returns-else-has_name
one_has_name-returns-else-has_name g t c =
    let b = Below (g.T.Taxa.is_below c.args.taxa.now) in
    let v = g.T.Taxa.variance_of_name c.args.taxa.now in
    let n = paths_of v (type_of c.args.first.now) in
    let m = paths_of v (type_of c.args.second.now) in
    let p = atom c.args.name.0 in (
      (λ h. to_append_first b v n m p (c.has_name-else-has_name.ensures.0 h)),
      (λ o. elim (from_append b v n m p o) [ inl a ↦ c.has_name-else-has_name.ensures.1 a | inr a ↦ absurd (false≢true (sym c.if-has_name.false ∙ c.has_name.ensures.1 a)) ]),
    )

pub has_name-returns-in-Meet : goal.has_name-returns-in-Meet
has_name-returns-in-Meet g t c =
    rw (c.in-Meet.is, ← c.deref.ensures) c.one_has_name.ensures

pub has_name-returns-in-Omega-2 : goal.has_name-returns-in-Omega-2
has_name-returns-in-Omega-2 g t c =
    let b = Below (g.T.Taxa.is_below c.args.taxa.now) in
    let v = g.T.Taxa.variance_of_name c.args.taxa.now in
    ((λ h. absurd (false≢true h)), (λ o. absurd (other_not_named b v (type_of c.args.lower.now) (elim c.in-Omega.is [ inl e ↦ rw e tt | inr e ↦ elim e [ inl r ↦ rw r.1 tt | inr r ↦ rw r.1 tt ] ]) c.args.name.0 o)))

pub has_name-returns-in-Omega-3 : goal.has_name-returns-in-Omega-3
has_name-returns-in-Omega-3 g t c =
    let b = Below (g.T.Taxa.is_below c.args.taxa.now) in
    let v = g.T.Taxa.variance_of_name c.args.taxa.now in
    ((λ h. absurd (false≢true h)), (λ o. absurd (other_not_named b v (type_of c.args.lower.now) (elim c.in-Omega.is [ inl e ↦ rw e tt | inr e ↦ elim e [ inl r ↦ rw r.1 tt | inr r ↦ rw r.1 tt ] ]) c.args.name.0 o)))
