-- The two readings of typing have the same judgements.
use Rattle.std.proofs.Common.{◌≡◌, ℕ, zero, suc, ◌+◌, ◌<◌, ◌↔◌, inl, inr, List, [], ◌∷◌, length, refl, sym, subst, arith}
use Rattle.std.specs.Prelude.{Contains, slice_get, slice_index_or, IsSomeAnd}
use Rattle.std.proofs.lemmas.List.{length-map}
use Rattle.cls_base.proofs.Lists.{Contains-nil, Contains-here, Contains-later, Contains-cases}
use Rattle.cls_base.specs.Types as types
use Rattle.cls_base.specs.Types.{ClosedType, meet}
use Rattle.cls_base.specs.Schemas.{OpenType}
use Rattle.cls_base.specs.Terms.{Applicative, component}
use Rattle.cls_base.specs.Typing.{HasType, by_instance, by_application, by_intersection, by_subsumption}
use Rattle.cls_base.specs.Subtyping.{Subtype, transitivity, to_omega, meet_left, meet_right}
use Rattle.cls_path.specs.Paths.{type_of_paths}
use Rattle.cls_path.proofs.Equivalence.{to_form, from_form}
use Rattle.cls_taxon.specs.Orders.{Declared}
use Rattle.cls_taxon.specs.DecisionLaws.{is_below-reflexive, is_below-transitive}
use Rattle.cls_kind.specs.Instances.{instance_of, type_for, choices_from, variables_of}
use Rattle.cls_kind.specs.Kinds.{HasInstances, ranges_of, instances_of, IsInstance}
use Rattle.cls_kind.proofs.ChoiceLaws.{choices-length}
use Rattle.cls_kind.proofs.Counting.{count-positive}
use Rattle.cls_kind.proofs.InstanceLaws.{instances-exact}
use Rattle.cls_kind.proofs.KindLaws.{full-ranges}
use Rattle.cls_library.specs.Libraries.{Component, Library, below_in, variances_in, paths_at, no_component, all_of, weight_of, IsComponentOf, AreComponentsOf, no_components, one_component}
use Rattle.cls_library.specs.Refusals.{AreAccepted, IsLibraryOf}
use Rattle.cls_library.specs.Typing.{HasTypeIn, IsInstanceOf, HasTypeByInstances}

-- a schema with its component
pub record Stands (d : Declared) (kinds : List (ℕ × List ClosedType)) (cs : List Component) (x : ℕ) (s : OpenType) : Type 0 where
  pub within : x < length cs
  pub accepted : HasInstances kinds s
  pub is : IsComponentOf d kinds s (slice_index_or cs x no_component)

module _ (d : Declared) (kinds : List (ℕ × List ClosedType)) where
  abbrev Sub : ClosedType → ClosedType → Type 0
  Sub s t = Subtype (below_in d) (variances_in d) s t

  -- an intersection is below each of its types
  all-below : (ts : List ClosedType) (t : ClosedType) → Contains ts t → Sub (all_of ts) t
  all-below [] t h = absurd (Contains-nil t h)
  all-below (s ∷ ts) t h = elim (Contains-cases s ts t h) [
    | inl e ↦ subst (λ u. Sub (all_of (s ∷ ts)) u) (sym e) meet_left
    | inr k ↦ transitivity meet_right (all-below ts t k)
  ]

  -- a component with each instance has their intersection
  module _ (instance : ℕ → ClosedType → Type 0) (e : Applicative) where
    abbrev Typed : ClosedType → Type 0
    Typed t = HasType (below_in d) (variances_in d) instance e t

    pub all-typed : (ts : List ClosedType) → Typed types.omega → ((t : ClosedType) → Contains ts t → Typed t) → Typed (all_of ts)
    all-typed [] o f = o
    all-typed (t ∷ ts) o f = by_intersection (f t (Contains-here t ts)) (all-typed ts o (λ u c. f u (Contains-later u t ts c)))

  -- there is an instance
  some-instance : (s : OpenType) → HasInstances kinds s → (t : ClosedType) × Contains (instances_of kinds s) t
  some-instance s h = first (instances_of kinds s) positive
    where
      positive : 0 < length (instances_of kinds s)
      positive =
          let a = count-positive (ranges_of kinds s) (full-ranges kinds (variables_of s) h.known) in
          let b = choices-length (ranges_of kinds s) in
          let c = length-map (choices_from (ranges_of kinds s)) (λ (c : List (ℕ × ClosedType)). instance_of (type_for c) s) in
          omega arith

      first : (ts : List ClosedType) → 0 < length ts → (t : ClosedType) × Contains ts t
      first [] l = absurd (omega arith)
      first (t ∷ ts) l = (t, Contains-here t ts)

  -- the schema at a number, and the component there
  schema-at : (number weight : ℕ) {ss : List OpenType} {cs : List Component} (x : ℕ) → AreAccepted d kinds number weight ss → AreComponentsOf d kinds ss cs → x < length cs → (s : OpenType) × Stands d kinds cs x s × (slice_get ss x ≡ slice_get (s ∷ []) 0)
  schema-at number weight x a no_components l = absurd (omega arith)
  schema-at number weight zero a (one_component {s = s} h k) l = (s, record { within = omega arith; accepted = a.0.has_instances; is = h }, refl)
  schema-at number weight (suc x) a (one_component {s = r} h k) l =
      let q = schema-at (number + 1) (weight + weight_of (instances_of kinds r)) x a.1 k (omega arith) in
      (q.0, record { within = omega arith; accepted = q.1.accepted; is = q.1.is }, q.2)

  declared : {ss : List OpenType} {cs : List Component} (x : ℕ) (P : OpenType → Type 0) → AreComponentsOf d kinds ss cs → IsSomeAnd (slice_get ss x) P → x < length cs
  declared x P no_components h = absurd h
  declared zero P (one_component h k) p = omega arith
  declared (suc x) P (one_component h k) p = let l = declared x P k p in omega arith

  module _ (schemas : List OpenType) (cs : List Component) (accepted : AreAccepted d kinds 0 0 schemas) (components : AreComponentsOf d kinds schemas cs) where
    abbrev L : Library
    L = record { taxonomy = d; components = cs }

    P : ℕ → ClosedType
    P x = type_of_paths (paths_at L x)

    at : (x : ℕ) → x < length cs → (s : OpenType) × Stands d kinds cs x s × (slice_get schemas x ≡ slice_get (s ∷ []) 0)
    at x l = schema-at 0 0 x accepted components l

    instance-below : (x : ℕ) (t : ClosedType) → IsInstanceOf kinds schemas x t → (x < length cs) × Sub (type_of_paths (paths_at L x)) t
    instance-below x t h =
        let l = declared x (λ s. IsInstance kinds s t) components h in
        let r = at x l in
        let i : IsInstance kinds r.0 t = subst (λ o. IsSomeAnd o (λ s. IsInstance kinds s t)) r.2 h in
        let c : Contains (instances_of kinds r.0) t = (instances-exact kinds r.0 t).1 i in
        (l, transitivity (from_form (below_in d) (variances_in d) (is_below-reflexive d) (is_below-transitive d) (all_of (instances_of kinds r.0)) (paths_at L x) r.1.is.form) (all-below (instances_of kinds r.0) t c))

    one-type : (x : ℕ) → x < length cs → HasTypeByInstances d kinds schemas (component x) (type_of_paths (paths_at L x))
    one-type x l =
        let r = at x l in
        let each : (t : ClosedType) → Contains (instances_of kinds r.0) t → HasTypeByInstances d kinds schemas (component x) t = λ t c. by_instance (subst (λ o. IsSomeAnd o (λ s. IsInstance kinds s t)) (sym r.2) ((instances-exact kinds r.0 t).0 c)) in
        let some = some-instance r.0 r.1.accepted in
        by_subsumption (all-typed (IsInstanceOf kinds schemas) (component x) (instances_of kinds r.0) (by_subsumption (each some.0 some.1) to_omega) each)
        (to_form (below_in d) (variances_in d) (is_below-reflexive d) (is_below-transitive d) (all_of (instances_of kinds r.0)) (paths_at L x) r.1.is.form)

    to-library : {e : Applicative} {t : ClosedType} → HasTypeByInstances d kinds schemas e t → HasTypeIn L e t
    to-library (by_instance {x = x} {s = s} h) = let r = instance-below x s h in by_subsumption (by_instance (r.0, refl)) r.1
    to-library (by_application h k) = by_application (to-library h) (to-library k)
    to-library (by_intersection h k) = by_intersection (to-library h) (to-library k)
    to-library (by_subsumption h k) = by_subsumption (to-library h) k

    from-library : {e : Applicative} {t : ClosedType} → HasTypeIn L e t → HasTypeByInstances d kinds schemas e t
    from-library (by_instance {x = x} {s = s} h) = subst (λ t. HasTypeByInstances d kinds schemas (component x) t) (sym h.1) (one-type x h.0)
    from-library (by_application h k) = by_application (from-library h) (from-library k)
    from-library (by_intersection h k) = by_intersection (from-library h) (from-library k)
    from-library (by_subsumption h k) = by_subsumption (from-library h) k

  pub readings-agree : (schemas : List OpenType) (l : Library) → IsLibraryOf d kinds schemas l → (e : Applicative) (t : ClosedType) → HasTypeByInstances d kinds schemas e t ↔ HasTypeIn l e t
  readings-agree schemas l h e t =
      let same : record { taxonomy = d; components = l.components } ≡ l = λ i. record { taxonomy = sym h.taxonomy i; components = l.components } in
      subst (λ m. HasTypeByInstances d kinds schemas e t ↔ HasTypeIn m e t) same
      ((λ k. to-library schemas l.components h.accepted h.components k), (λ k. from-library schemas l.components h.accepted h.components k))
