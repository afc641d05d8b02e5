use Rattle.std.proofs.Common.{rules, ◌≡◌, refl, sym, ◌∙◌, ap, subst, ◌+◌, inl, inr, List, [], drop, arith, eq-eqb, Bor, true, false}
use Rattle.std.proofs.lemmas.List.{drop_all}
use Rattle.std.proofs.lemmas.Bool.{eqb-true, false≢true}
use Rattle.cls_base.specs.Types.{arrow, nodes, path_count}
use Rattle.cls_base.specs.Ty.{type_of}
use Rattle.cls_base.specs.Taxa.{Below, variance_of}
use Rattle.cls_base.specs.Taxonomies.{covariant, contravariant, invariant}
use Rattle.cls_base.specs.declared.ty.Ty.{Ty}
use Rattle.cls_path.specs.Laws.{IsPartialOrder}
use Rattle.cls_path.specs.Paths.{Paths, none, sealed, PathsLe, empty, SomeLe, paths_of}
use Rattle.cls_path.proofs.PathLaws.{derivations_are_decided}
use Rattle.cls_norm.specs.Subtypes.{Adds, IsSealing, paths_of_all, nodes_of_all}
use Rattle.cls_norm.proofs.Pathless.{no_paths}
use Rattle.cls_norm.proofs.Steps.{append_none, both, to_append_first, to_append_second, from_append}
use Rattle.cls_norm.proofs.Parts.{drop_item, name_entered, name_passed, left_part, right_part, product_name, product_source, source_above, source_passed, arrow_name, arrow_left, arrow_right, none_added, pathless_passed, le_append}
use Rattle.cls_norm.proofs.Uppers.{nodes_at, not_covariant, filled, unfilled, parts_decide, parts_lack, sides_decide, sealed_upper, name_below, contra_decides, inv_decides, other_not_sealed, sealing_needs, some_at, none_at, nowhere, bare_upper}
use Rattle.cls_norm.proofs.subtypes.+below.Goals as goal

no : {A : Type 0} → (A → ⊥) → (◌≡◌ false true → A) × (A → ◌≡◌ false true)
no f = ((λ h. absurd (false≢true h)), (λ a. absurd (f a)))

yes : {A : Type 0} → A → (◌≡◌ true true → A) × (A → ◌≡◌ true true)
yes a = ((λ h. a), (λ h. refl))

pub are_below-returns-in-Omega : goal.are_below-returns-in-Omega
are_below-returns-in-Omega g t c =
    rw c.in-Omega.is ((λ h. empty), (λ h. refl))

pub are_below-returns-in_ok-are_below_over-in-Con : goal.are_below-returns-in_ok-are_below_over-in-Con
are_below-returns-in_ok-are_below_over-in-Con g t c =
    rw (c.in-Con.is, ← c.deref.ensures) c.in_ok-are_below_over-in-Con.ensures

pub are_below-returns-in_ok-are_below_product-in-Prod : goal.are_below-returns-in_ok-are_below_product-in-Prod
are_below-returns-in_ok-are_below_product-in-Prod g t c =
    rw (c.in-Prod.is, ← c.deref-in-Prod.ensures) c.in_ok-are_below_product-in-Prod.ensures

pub are_below-returns-in_ok-are_below_arrow-in-Arrow : goal.are_below-returns-in_ok-are_below_arrow-in-Arrow
are_below-returns-in_ok-are_below_arrow-in-Arrow g t c =
    rw (c.in-Arrow.is, ← c.deref-in-Arrow.ensures) c.in_ok-are_below_arrow-in-Arrow.ensures

pub are_below_over-returns-in_ok-parts_are_below-in-Co : goal.are_below_over-returns-in_ok-parts_are_below-in-Co
are_below_over-returns-in_ok-parts_are_below-in-Co g t c =
    let v = g.T.Taxa.variance_of_name c.args.taxa.now in
    let k : covariant ≡ v c.args.name.0 = ap variance_of (sym c.in-Co.is) ∙ c.variance.ensures.is in
    rw (← k) c.in_ok-parts_are_below-in-Co.ensures

pub are_below_over-returns-in_ok-has_name_below-in-Contra : goal.are_below_over-returns-in_ok-has_name_below-in-Contra
are_below_over-returns-in_ok-has_name_below-in-Contra g t c =
    let b = Below (g.T.Taxa.is_below c.args.taxa.now) in
    let v = g.T.Taxa.variance_of_name c.args.taxa.now in
    let x = paths_of_all v c.args.lowers.now in
    let w : IsSealing (v c.args.name.0) = elim c.in-Contra.is [ inl e ↦ inl (sym c.variance.ensures.is ∙ ap variance_of e) | inr e ↦ inr (sym c.variance.ensures.is ∙ ap variance_of e) ] in
    let e = c.in_ok-has_name_below-in-Contra.ensures in
    let k = sealed_upper b v (v c.args.name.0) w x c.args.name.0 (paths_of v (type_of c.args.argument.now)) in
    ((λ h. k.0 (e.0 h)), (λ l. e.1 (k.1 l)))

pub are_below_arrow-returns-then-equals_omega : goal.are_below_arrow-returns-then-equals_omega
are_below_arrow-returns-then-equals_omega g t c =
    let b = Below (g.T.Taxa.is_below c.args.taxa.now) in
    let v = g.T.Taxa.variance_of_name c.args.taxa.now in
    let x = paths_of_all v c.args.lowers.now in
    let e = no_paths v (arrow (type_of c.args.source.now) (type_of c.args.target.now)) (c.is_pathless-equals_omega.ensures.0 c.if-equals_omega.true) in
    yes (subst (λ (n : Paths). PathsLe b v x n) (sym e) empty)

pub are_below_arrow-parts_are_below-requires : goal.are_below_arrow-parts_are_below-requires
are_below_arrow-parts_are_below-requires g t c κs within =
    let asked : path_count (type_of c.args.target.now) ≡ 0 → ⊥ = λ e. false≢true (sym c.if-equals_omega.false ∙ c.is_pathless-equals_omega.ensures.1 e) in
    search rules

pub are_below_product-returns-then-not-branch : goal.are_below_product-returns-then-not-branch
are_below_product-returns-then-not-branch g t c =
    let b = Below (g.T.Taxa.is_below c.args.taxa.now) in
    let v = g.T.Taxa.variance_of_name c.args.taxa.now in
    let x = paths_of_all v c.args.lowers.now in
    let e = c.in_ok-parts_are_below.ensures in
    let k = sides_decide b v x (paths_of v (type_of c.args.first.now)) (paths_of v (type_of c.args.second.now)) in
    no (λ l. false≢true (sym c.if-not-branch.true ∙ e.1 (k.1 l).0))

pub are_below_product-returns : goal.are_below_product-returns
are_below_product-returns g t c =
    let b = Below (g.T.Taxa.is_below c.args.taxa.now) in
    let v = g.T.Taxa.variance_of_name c.args.taxa.now in
    let x = paths_of_all v c.args.lowers.now in
    let e = c.in_ok-parts_are_below.ensures in
    let f = c.in_ok-parts_are_below-2.ensures in
    let k = sides_decide b v x (paths_of v (type_of c.args.first.now)) (paths_of v (type_of c.args.second.now)) in
    ((λ h. k.0 (e.0 c.if-not-branch.false, f.0 h)), (λ l. f.1 (k.1 l).1))

pub are_below-returns-then-not-branch : goal.are_below-returns-then-not-branch
are_below-returns-then-not-branch g t c =
    let b = Below (g.T.Taxa.is_below c.args.taxa.now) in
    let v = g.T.Taxa.variance_of_name c.args.taxa.now in
    let x = paths_of_all v c.args.lowers.now in
    let e = c.in_ok-are_below-in-Meet.ensures in
    let k = le_append b v x (paths_of v (type_of c.deref-in-Meet.result.now.0)) (paths_of v (type_of c.deref-in-Meet.result.now.1)) in
    rw (c.in-Meet.is, ← c.deref-in-Meet.ensures) (no (λ l. false≢true (sym c.if-not-branch.true ∙ e.1 (k.0 l).1)))

pub are_below-returns-in_ok-are_below-in-Meet-2 : goal.are_below-returns-in_ok-are_below-in-Meet-2
are_below-returns-in_ok-are_below-in-Meet-2 g t c =
    let b = Below (g.T.Taxa.is_below c.args.taxa.now) in
    let v = g.T.Taxa.variance_of_name c.args.taxa.now in
    let x = paths_of_all v c.args.lowers.now in
    let e = c.in_ok-are_below-in-Meet.ensures in
    let f = c.in_ok-are_below-in-Meet-2.ensures in
    let k = le_append b v x (paths_of v (type_of c.deref-in-Meet.result.now.0)) (paths_of v (type_of c.deref-in-Meet.result.now.1)) in
    rw (c.in-Meet.is, ← c.deref-in-Meet.ensures) ((λ h. k.1 (f.0 h, e.0 c.if-not-branch.false)), (λ l. f.1 (k.0 l).0))

pub are_below_over-returns-then-is_omega : goal.are_below_over-returns-then-is_omega
are_below_over-returns-then-is_omega g t c =
    let b = Below (g.T.Taxa.is_below c.args.taxa.now) in
    let v = g.T.Taxa.variance_of_name c.args.taxa.now in
    let x = paths_of_all v c.args.lowers.now in
    let k : covariant ≡ v c.args.name.0 = ap variance_of (sym c.in-Co.is) ∙ c.variance.ensures.is in
    let s = type_of c.args.argument.now in
    let a = bare_upper b v x c.args.name.0 (paths_of v s) (ap (paths_of v) (c.is_omega.ensures.0 c.if-is_omega.true)) in
    let e = c.have_name.ensures in
    rw (← k) ((λ h. a.0 (e.0 h)), (λ l. e.1 (a.1 l)))

pub are_below-returns-in_ok-are_below_bare-in-Bare : goal.are_below-returns-in_ok-are_below_bare-in-Bare
are_below-returns-in_ok-are_below_bare-in-Bare g t c =
    rw c.in-Bare.is c.in_ok-are_below_bare-in-Bare.ensures

pub are_below_bare-returns-in-Co : goal.are_below_bare-returns-in-Co
are_below_bare-returns-in-Co g t c =
    let b = Below (g.T.Taxa.is_below c.args.taxa.now) in
    let v = g.T.Taxa.variance_of_name c.args.taxa.now in
    let x = paths_of_all v c.args.lowers.now in
    let k : covariant ≡ v c.args.name.0 = ap variance_of (sym c.in-Co.is) ∙ c.variance.ensures.is in
    let a = bare_upper b v x c.args.name.0 none refl in
    let e = c.have_name.ensures in
    rw (← k) ((λ h. a.0 (e.0 h)), (λ l. e.1 (a.1 l)))

pub are_below_bare-returns-in_ok-has_name_below-in-Contra : goal.are_below_bare-returns-in_ok-has_name_below-in-Contra
are_below_bare-returns-in_ok-has_name_below-in-Contra g t c =
    let b = Below (g.T.Taxa.is_below c.args.taxa.now) in
    let v = g.T.Taxa.variance_of_name c.args.taxa.now in
    let x = paths_of_all v c.args.lowers.now in
    let w : IsSealing (v c.args.name.0) = elim c.in-Contra.is [ inl e ↦ inl (sym c.variance.ensures.is ∙ ap variance_of e) | inr e ↦ inr (sym c.variance.ensures.is ∙ ap variance_of e) ] in
    let e = c.in_ok-has_name_below-in-Contra.ensures in
    let k = sealed_upper b v (v c.args.name.0) w x c.args.name.0 none in
    ((λ h. k.0 (e.0 h)), (λ l. e.1 (k.1 l)))

pub has_name_below-is_name_below-requires : goal.has_name_below-is_name_below-requires
has_name_below-is_name_below-requires g t c κs within =
    let s = nodes_at c.args.lowers.now c.loop-lower.lower-index c.lower-item.result c.loop-lower-test.true c.lower-item.is in
    search rules

pub has_name_below-returns-then-branch : goal.has_name_below-returns-then-branch
has_name_below-returns-then-branch g t c =
    let b = Below (g.T.Taxa.is_below c.args.taxa.now) in
    let v = g.T.Taxa.variance_of_name c.args.taxa.now in
    let q = sealed c.args.name.0 (paths_of v (type_of c.args.argument.now)) in
    yes (some_at b v c.args.lowers.now c.loop-lower.lower-index c.lower-item.result q c.loop-lower-test.true c.lower-item.is (c.in_ok-is_name_below.ensures.0 c.if-branch.true))

pub has_name_below-loop-lower-preserved : goal.has_name_below-loop-lower-preserved
has_name_below-loop-lower-preserved g t c =
    let b = Below (g.T.Taxa.is_below c.args.taxa.now) in
    let v = g.T.Taxa.variance_of_name c.args.taxa.now in
    let q = sealed c.args.name.0 (paths_of v (type_of c.args.argument.now)) in
    λ o. none_at b v c.args.lowers.now c.loop-lower.lower-index c.lower-item.result q c.loop-lower-test.true c.lower-item.is (λ a. false≢true (sym c.if-branch.false ∙ c.in_ok-is_name_below.ensures.1 a)) (c.loop-lower.invariant o)

pub has_name_below-returns : goal.has_name_below-returns
has_name_below-returns g t c =
    let b = Below (g.T.Taxa.is_below c.args.taxa.now) in
    let v = g.T.Taxa.variance_of_name c.args.taxa.now in
    let q = sealed c.args.name.0 (paths_of v (type_of c.args.argument.now)) in
    let e = drop_all c.loop-lower.lower-index c.args.lowers.now c.loop-lower-test.false in
    no (λ o. nowhere b v q (subst (λ (l : List (Bor Ty)). SomeLe b v (paths_of_all v l) q) e (c.loop-lower.invariant o)))

pub is_name_below-returns-in_ok-is_bare_below-in-Bare : goal.is_name_below-returns-in_ok-is_bare_below-in-Bare
is_name_below-returns-in_ok-is_bare_below-in-Bare g t c =
    rw c.in-Bare.is c.in_ok-is_bare_below-in-Bare.ensures

pub is_name_below-returns-then-not-below : goal.is_name_below-returns-then-not-below
is_name_below-returns-then-not-below g t c =
    let b = Below (g.T.Taxa.is_below c.args.taxa.now) in
    let v = g.T.Taxa.variance_of_name c.args.taxa.now in
    let m = paths_of v (type_of c.args.argument.now) in
    let d = c.args.name.0 in
    let n = paths_of v (type_of c.in-Con.inner.value) in
    rw c.in-Con.is (no (λ o. false≢true (sym c.if-not-below.true ∙ (c.below.ensures.is ∙ name_below b v (v c.in-Con.other.0) c.in-Con.other.0 d n m o))))

pub is_name_below-returns-then-not-branch : goal.is_name_below-returns-then-not-branch
is_name_below-returns-then-not-branch g t c =
    let b = Below (g.T.Taxa.is_below c.args.taxa.now) in
    let v = g.T.Taxa.variance_of_name c.args.taxa.now in
    let m = paths_of v (type_of c.args.argument.now) in
    let d = c.args.name.0 in
    let met = g.met.T.Taxa in
    let l : b c.in-Con.other.0 d = sym c.below.ensures.is ∙ c.if-not-below.false in
    let f = append_none m in
    let s = type_of c.deref.result.now in
    let e = c.in_ok-are_below-in-Con.ensures in
    rw (c.in-Con.is, ← c.deref.ensures) (no (λ o. false≢true (sym c.if-not-branch.true ∙ e.1 (subst (λ (x : Paths). PathsLe b v x (paths_of v s)) (sym f)
    (sealing_needs b v (met.one_variance c.args.taxa.now) c.in-Con.other.0 d s m c.requires l o)))))

pub is_name_below-returns-in_ok-are_equivalent-in-Inv : goal.is_name_below-returns-in_ok-are_equivalent-in-Inv
is_name_below-returns-in_ok-are_equivalent-in-Inv g t c =
    let b = Below (g.T.Taxa.is_below c.args.taxa.now) in
    let v = g.T.Taxa.variance_of_name c.args.taxa.now in
    let m = paths_of v (type_of c.args.argument.now) in
    let d = c.args.name.0 in
    let met = g.met.T.Taxa in
    let l : b c.in-Con.other.0 d = sym c.below.ensures.is ∙ c.if-not-below.false in
    let f = append_none m in
    let order : IsPartialOrder b = record { reflexive = met.reflexive c.args.taxa.now; transitive = met.transitive c.args.taxa.now; antisymmetric = met.antisymmetric c.args.taxa.now } in
    let exact = derivations_are_decided (g.T.Taxa.is_below c.args.taxa.now) v order in
    let w : v d ≡ invariant = sym c.variance.ensures.is ∙ ap variance_of c.in-Inv.is in
    let s = type_of c.deref-in-Inv.result.now in
    let u = type_of c.args.argument.now in
    let k = inv_decides b v c.in-Con.other.0 d s m (met.one_variance c.args.taxa.now c.in-Con.other.0 d l ∙ w) w l in
    let e = c.in_ok-are_equivalent-in-Inv.ensures in
    rw (c.in-Con.is, ← c.deref-in-Inv.ensures) (
      (λ h. let r = e.0 h in k.0 ((exact s u).0 r.0, (exact u s).0 r.1)),
      (λ o. let r = k.1 o in e.1 ((exact s u).1 r.0, (exact u s).1 r.1)),
    )

pub is_name_below-returns-in-Co : goal.is_name_below-returns-in-Co
is_name_below-returns-in-Co g t c =
    let b = Below (g.T.Taxa.is_below c.args.taxa.now) in
    let v = g.T.Taxa.variance_of_name c.args.taxa.now in
    let m = paths_of v (type_of c.args.argument.now) in
    let d = c.args.name.0 in
    let met = g.met.T.Taxa in
    let l : b c.in-Con.other.0 d = sym c.below.ensures.is ∙ c.if-not-below.false in
    let f = append_none m in
    let w : v d ≡ contravariant = elim c.in-Co.is [
      | inl e ↦ absurd (not_covariant (v d) c.requires (ap variance_of (sym e) ∙ c.variance.ensures.is))
      | inr e ↦ sym c.variance.ensures.is ∙ ap variance_of e
    ] in
    let s = type_of c.deref.result.now in
    let k = contra_decides b v c.in-Con.other.0 d s m (met.one_variance c.args.taxa.now c.in-Con.other.0 d l ∙ w) w l in
    let e = c.in_ok-are_below-in-Con.ensures in
    rw (c.in-Con.is, ← c.deref.ensures) (yes (k.0 (subst (λ (x : Paths). PathsLe b v x (paths_of v s)) f (e.0 c.if-not-branch.false))))

pub is_name_below-returns-then-branch : goal.is_name_below-returns-then-branch
is_name_below-returns-then-branch g t c =
    let b = Below (g.T.Taxa.is_below c.args.taxa.now) in
    let v = g.T.Taxa.variance_of_name c.args.taxa.now in
    let m = paths_of v (type_of c.args.argument.now) in
    let d = c.args.name.0 in
    let n = paths_of v (type_of c.deref-in-Meet.result.now.0) in
    let k = paths_of v (type_of c.deref-in-Meet.result.now.1) in
    rw (c.in-Meet.is, ← c.deref-in-Meet.ensures) (yes (to_append_first b v n k (sealed d m) (c.in_ok-is_name_below-in-Meet.ensures.0 c.if-branch.true)))

pub is_name_below-returns-in_ok-is_name_below-in-Meet-2 : goal.is_name_below-returns-in_ok-is_name_below-in-Meet-2
is_name_below-returns-in_ok-is_name_below-in-Meet-2 g t c =
    let b = Below (g.T.Taxa.is_below c.args.taxa.now) in
    let v = g.T.Taxa.variance_of_name c.args.taxa.now in
    let m = paths_of v (type_of c.args.argument.now) in
    let d = c.args.name.0 in
    let n = paths_of v (type_of c.deref-in-Meet.result.now.0) in
    let k = paths_of v (type_of c.deref-in-Meet.result.now.1) in
    let e = c.in_ok-is_name_below-in-Meet.ensures in
    let f = c.in_ok-is_name_below-in-Meet-2.ensures in
    rw (c.in-Meet.is, ← c.deref-in-Meet.ensures) (
      (λ h. to_append_second b v n k (sealed d m) (f.0 h)),
      (λ o. elim (from_append b v n k (sealed d m) o) [ inl a ↦ absurd (false≢true (sym c.if-branch.false ∙ e.1 a)) | inr a ↦ f.1 a ]),
    )

pub is_name_below-returns-in-Omega-2 : goal.is_name_below-returns-in-Omega-2
is_name_below-returns-in-Omega-2 g t c =
    let b = Below (g.T.Taxa.is_below c.args.taxa.now) in
    let v = g.T.Taxa.variance_of_name c.args.taxa.now in
    let m = paths_of v (type_of c.args.argument.now) in
    let d = c.args.name.0 in
    no (λ o. other_not_sealed b v (type_of c.args.lower.now) (elim c.in-Omega.is [ inl e ↦ rw e tt | inr e ↦ elim e [ inl r ↦ rw r.1 tt | inr r ↦ rw r.1 tt ] ]) d m o)

pub is_name_below-returns-in-Omega-3 : goal.is_name_below-returns-in-Omega-3
is_name_below-returns-in-Omega-3 g t c =
    let b = Below (g.T.Taxa.is_below c.args.taxa.now) in
    let v = g.T.Taxa.variance_of_name c.args.taxa.now in
    let m = paths_of v (type_of c.args.argument.now) in
    let d = c.args.name.0 in
    no (λ o. other_not_sealed b v (type_of c.args.lower.now) (elim c.in-Omega.is [ inl e ↦ rw e tt | inr e ↦ elim e [ inl r ↦ rw r.1 tt | inr r ↦ rw r.1 tt ] ]) d m o)

pub parts_are_below-returns-then-is_empty : goal.parts_are_below-returns-then-is_empty
parts_are_below-returns-then-is_empty g t c =
    let b = Below (g.T.Taxa.is_below c.args.taxa.now) in
    let v = g.T.Taxa.variance_of_name c.args.taxa.now in
    let x = paths_of_all v c.args.lowers.now in
    let k = nodes_of_all c.args.lowers.now in
    let parts = c.in_ok-parts.parts in
    let e = unfilled parts.items (sym parts.ok.0 ∙ eqb-true parts.len 0 (sym c.is_empty.ensures ∙ c.if-is_empty.true)) in
    let a = subst (λ (l : List (Bor Ty)). Adds b v c.args.step x k [] l) e c.in_ok-parts.ensures in
    no (λ l. parts_lack b v c.args.step x k (type_of c.args.upper.now) a c.requires.asked l)

pub parts_are_below-returns : goal.parts_are_below-returns
parts_are_below-returns g t c =
    let b = Below (g.T.Taxa.is_below c.args.taxa.now) in
    let v = g.T.Taxa.variance_of_name c.args.taxa.now in
    let x = paths_of_all v c.args.lowers.now in
    let k = nodes_of_all c.args.lowers.now in
    let n = paths_of v (type_of c.args.upper.now) in
    let parts = c.in_ok-parts.parts.items in
    let whole = c.in_ok-parts.parts in
    let f = filled parts (λ l. false≢true (sym c.if-is_empty.false ∙ (c.is_empty.ensures ∙ eq-eqb whole.len 0 (whole.ok.0 ∙ l)))) in
    let a = parts_decide b v c.args.step x k parts n c.in_ok-parts.ensures f in
    let e = c.in_ok-are_below.ensures in
    let s = c.deref.ensures.value in (
      (λ h. a.0 (subst (λ (l : List (Bor Ty)). PathsLe b v (paths_of_all v l) n) s (e.0 h))),
      (λ l. e.1 (subst (λ (y : List (Bor Ty)). PathsLe b v (paths_of_all v y) n) (sym s) (a.1 l))),
    )

pub parts_behind-put_parts-requires : goal.parts_behind-put_parts-requires
parts_behind-put_parts-requires g t c κs within =
    let s = nodes_at c.args.lowers.now c.loop-lower.lower-index c.lower-item.result c.loop-lower-test.true c.lower-item.is in
    search rules

pub parts_behind-loop-lower-preserved : goal.parts_behind-loop-lower-preserved
parts_behind-loop-lower-preserved g t c =
    let b = Below (g.T.Taxa.is_below c.args.taxa.now) in
    let v = g.T.Taxa.variance_of_name c.args.taxa.now in
    let item = c.lower-item.result in
    let rest = drop (c.loop-lower.lower-index + 1) c.args.lowers.now in
    let e = drop_item c.args.lowers.now c.loop-lower.lower-index c.lower-item.result c.loop-lower-test.true c.lower-item.is in
    let old = c.loop-lower.parts.items in
    let mid = c.put_parts.new.parts.items in
    let k = nodes (type_of item.now) in
    λ new a. c.loop-lower.invariant new (subst (λ (l : List (Bor Ty)). Adds b v c.args.step (paths_of_all v l) (nodes_of_all l) old new) (sym e)
    (both b v c.args.step (paths_of v (type_of item.now)) (paths_of_all v rest) k (nodes_of_all rest) (1 + k + nodes_of_all rest) old mid new (omega arith) c.in_ok-put_parts.ensures a))

pub parts_behind-returns : goal.parts_behind-returns
parts_behind-returns g t c =
    let b = Below (g.T.Taxa.is_below c.args.taxa.now) in
    let v = g.T.Taxa.variance_of_name c.args.taxa.now in
    let e = drop_all c.loop-lower.lower-index c.args.lowers.now c.loop-lower-test.false in
    let parts = c.loop-lower.parts.items in
    c.loop-lower.invariant parts (subst (λ (l : List (Bor Ty)). Adds b v c.args.step (paths_of_all v l) (nodes_of_all l) parts parts) (sym e) (none_added b v c.args.step 0 parts))

pub put_parts-returns-in_ok-put_omega-in-Bare : goal.put_parts-returns-in_ok-put_omega-in-Bare
put_parts-returns-in_ok-put_omega-in-Bare g t c =
    rw c.in-Bare.is c.in_ok-put_omega-in-Bare.ensures

pub put_parts-returns-in_ok-push-in-Con : goal.put_parts-returns-in_ok-push-in-Con
put_parts-returns-in_ok-push-in-Con g t c =
    let b = Below (g.T.Taxa.is_below c.args.taxa.now) in
    let v = g.T.Taxa.variance_of_name c.args.taxa.now in
    rw c.in-Con.is (name_entered b v (g.met.T.Taxa.one_variance c.args.taxa.now) c.args.step c.in-Con.name.0 (type_of c.in-Con.argument.value) c.deref.result c.args.parts.now.items c.push.new.self.items
    (ap type_of (sym c.deref.ensures)) c.in_ok-push-in-Con.ensures.items c.requires.stands (c.is_entered.ensures.0 c.if-is_entered.true))

pub put_parts-returns-else-is_entered : goal.put_parts-returns-else-is_entered
put_parts-returns-else-is_entered g t c =
    let b = Below (g.T.Taxa.is_below c.args.taxa.now) in
    let v = g.T.Taxa.variance_of_name c.args.taxa.now in
    rw c.in-Con.is (name_passed b v c.args.step c.in-Con.name.0 (type_of c.in-Con.argument.value) c.args.parts.now.items (λ e. false≢true (sym c.if-is_entered.false ∙ c.is_entered.ensures.1 e)))

pub put_parts-returns-in_ok-push-in-Left : goal.put_parts-returns-in_ok-push-in-Left
put_parts-returns-in_ok-push-in-Left g t c =
    let b = Below (g.T.Taxa.is_below c.args.taxa.now) in
    let v = g.T.Taxa.variance_of_name c.args.taxa.now in
    rw (c.in-Prod.is, c.in-Left.is) (left_part b v (type_of c.in-Prod.sides.value.0) (type_of c.in-Prod.sides.value.1) _ c.args.parts.now.items c.push-in-Left.new.self.items
    (ap (λ (s : Ty × Ty). type_of s.0) (sym c.deref-in-Prod.ensures)) c.in_ok-push-in-Left.ensures.items)

pub put_parts-returns-in_ok-push-in-Right : goal.put_parts-returns-in_ok-push-in-Right
put_parts-returns-in_ok-push-in-Right g t c =
    let b = Below (g.T.Taxa.is_below c.args.taxa.now) in
    let v = g.T.Taxa.variance_of_name c.args.taxa.now in
    rw (c.in-Prod.is, c.in-Right.is) (right_part b v (type_of c.in-Prod.sides.value.0) (type_of c.in-Prod.sides.value.1) _ c.args.parts.now.items c.push-in-Right.new.self.items
    (ap (λ (s : Ty × Ty). type_of s.1) (sym c.deref-in-Prod.ensures)) c.in_ok-push-in-Right.ensures.items)

pub put_parts-returns-in-Name : goal.put_parts-returns-in-Name
put_parts-returns-in-Name g t c =
    let b = Below (g.T.Taxa.is_below c.args.taxa.now) in
    let v = g.T.Taxa.variance_of_name c.args.taxa.now in
    let s = type_of c.in-Prod.sides.value.0 in
    let u = type_of c.in-Prod.sides.value.1 in
    let old = c.args.parts.now.items in
    elim c.in-Name.is [
      | inl r ↦ rw (c.in-Prod.is, r.1) (product_name b v r.0 s u old)
      | inr r ↦ rw (c.in-Prod.is, r.1) (product_source b v r.0 s u old)
    ]

pub put_parts-returns-in-Name-step : goal.put_parts-returns-in-Name-step
put_parts-returns-in-Name-step g t c =
    let b = Below (g.T.Taxa.is_below c.args.taxa.now) in
    let v = g.T.Taxa.variance_of_name c.args.taxa.now in
    let s = type_of c.in-Arrow.sides.value.0 in
    let u = type_of c.in-Arrow.sides.value.1 in
    let old = c.args.parts.now.items in
    elim c.in-Name-step.is [
      | inl r ↦ rw (c.in-Arrow.is, r.1) (arrow_name b v r.0 s u old)
      | inr r ↦ elim r [
        | inl e ↦ rw (c.in-Arrow.is, e) (arrow_left b v s u old)
        | inr e ↦ rw (c.in-Arrow.is, e) (arrow_right b v s u old)
      ]
    ]

pub put_parts-returns-then-is_pathless : goal.put_parts-returns-then-is_pathless
put_parts-returns-then-is_pathless g t c =
    let b = Below (g.T.Taxa.is_below c.args.taxa.now) in
    let v = g.T.Taxa.variance_of_name c.args.taxa.now in
    let e = ap (λ (s : Ty × Ty). path_count (type_of s.1)) c.deref-in-Arrow.ensures in
    rw c.in-Arrow.is (pathless_passed b v c.args.step (type_of c.in-Arrow.sides.value.0) (type_of c.in-Arrow.sides.value.1) c.args.parts.now.items
    (sym e ∙ c.is_pathless.ensures.0 c.if-is_pathless.true))

pub put_parts-returns-in_ok-push-in-Source : goal.put_parts-returns-in_ok-push-in-Source
put_parts-returns-in_ok-push-in-Source g t c =
    let b = Below (g.T.Taxa.is_below c.args.taxa.now) in
    let v = g.T.Taxa.variance_of_name c.args.taxa.now in
    let taken = c.in-Source.taken in
    let n = paths_of v (type_of taken.now) in
    let e = c.in_ok-are_below-in-Source.ensures in
    let f = append_none n in
    let k : paths_of v (type_of c.deref-in-Arrow.result.now.0) ≡ paths_of v (type_of c.in-Arrow.sides.value.0) = ap (λ (s : Ty × Ty). paths_of v (type_of s.0)) c.deref-in-Arrow.ensures in
    let l : PathsLe b v n (paths_of v (type_of c.in-Arrow.sides.value.0)) = subst (λ (m : Paths). PathsLe b v n m) k (subst (λ (x : Paths). PathsLe b v x (paths_of v (type_of c.deref-in-Arrow.result.now.0))) f (e.0 c.if-branch.true)) in
    rw (c.in-Arrow.is, c.in-Source.is) (source_above b v taken (type_of c.in-Arrow.sides.value.0) (type_of c.in-Arrow.sides.value.1) _ c.args.parts.now.items c.push-then-branch.new.self.items
    (ap (λ (s : Ty × Ty). type_of s.1) (sym c.deref-in-Arrow.ensures)) c.in_ok-push-in-Source.ensures.items l)

pub put_parts-returns-else-branch : goal.put_parts-returns-else-branch
put_parts-returns-else-branch g t c =
    let b = Below (g.T.Taxa.is_below c.args.taxa.now) in
    let v = g.T.Taxa.variance_of_name c.args.taxa.now in
    let taken = c.in-Source.taken in
    let n = paths_of v (type_of taken.now) in
    let e = c.in_ok-are_below-in-Source.ensures in
    let f = append_none n in
    let k : paths_of v (type_of c.deref-in-Arrow.result.now.0) ≡ paths_of v (type_of c.in-Arrow.sides.value.0) = ap (λ (s : Ty × Ty). paths_of v (type_of s.0)) c.deref-in-Arrow.ensures in
    rw (c.in-Arrow.is, c.in-Source.is) (source_passed b v taken (type_of c.in-Arrow.sides.value.0) (type_of c.in-Arrow.sides.value.1) c.args.parts.now.items
    (λ l. false≢true (sym c.if-branch.false ∙ e.1 (subst (λ (x : Paths). PathsLe b v x (paths_of v (type_of c.deref-in-Arrow.result.now.0))) (sym f) (subst (λ (m : Paths). PathsLe b v n m) (sym k) l)))))

pub put_parts-returns-in_ok-put_parts-in-Meet-2 : goal.put_parts-returns-in_ok-put_parts-in-Meet-2
put_parts-returns-in_ok-put_parts-in-Meet-2 g t c =
    let b = Below (g.T.Taxa.is_below c.args.taxa.now) in
    let v = g.T.Taxa.variance_of_name c.args.taxa.now in
    let s = type_of c.deref-in-Meet.result.now.0 in
    let u = type_of c.deref-in-Meet.result.now.1 in
    rw (c.in-Meet.is, ← c.deref-in-Meet.ensures) (both b v c.args.step (paths_of v s) (paths_of v u) (nodes s) (nodes u) (1 + nodes s + nodes u) c.args.parts.now.items c.put_parts.new.parts.items c.put_parts-in-Meet.new.parts.items (omega arith) c.in_ok-put_parts-in-Meet.ensures c.in_ok-put_parts-in-Meet-2.ensures)
