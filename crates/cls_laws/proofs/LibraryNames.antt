-- The names in the paths of a library are those of its schemas and of the kinds.
use Rattle.std.proofs.Common.{ℕ, zero, suc, true, false, List, [], ◌∷◌, map}
use Rattle.std.specs.Prelude.{◌==◌, if◌then◌else◌}
use Rattle.std.specs.List.{AllByRecursion, flat_map}
use Rattle.cls_base.specs.Types.{ClosedType}
use Rattle.cls_base.specs.Schemas as schemas
use Rattle.cls_base.specs.Schemas.{OpenType}
use Rattle.cls_kind.specs.Instances.{instance_of, type_for, choices_from, instance_by, variables_of}
use Rattle.cls_kind.specs.Kinds.{kind_of, ranges_of, instances_of}
use Rattle.cls_path.specs.Paths.{paths_of}
use Rattle.cls_taxon.specs.Orders.{Declared}
use Rattle.cls_taxon.specs.DecisionLaws.{is_below-reflexive, is_below-transitive, is_below-antisymmetric}
use Rattle.cls_library.specs.Index.{paths_in}
use Rattle.cls_library.specs.Libraries.{Library, Component, below_in, variances_in, paths_at, all_of, IsComponentOf, AreComponentsOf, no_components, one_component}
use Rattle.cls_library.specs.Refusals.{IsLibraryOf}
use Rattle.cls_query.proofs.Searches.{all_both}
use Rattle.cls_laws.proofs.PathNames.{TypeHas, PathsHave, paths_have, canonical_has}

module _ (K : ℕ → Type 0) where
  -- each constructor of the schema has the property
  abbrev pub SchemaHas : OpenType → Type 0
  SchemaHas schemas.omega = Unit {0}
  SchemaHas (schemas.constructor c s) = K c × SchemaHas s
  SchemaHas (schemas.product s t) = SchemaHas s × SchemaHas t
  SchemaHas (schemas.arrow s t) = SchemaHas s × SchemaHas t
  SchemaHas (schemas.meet s t) = SchemaHas s × SchemaHas t
  SchemaHas (schemas.variable v) = Unit {0}

  abbrev pub EachType : List ClosedType → Type 0
  EachType ts = AllByRecursion (TypeHas K) ts

  abbrev pub KindsHave : List (ℕ × List ClosedType) → Type 0
  KindsHave ks = AllByRecursion (λ (k : ℕ × List ClosedType). EachType k.1) ks

  instance_has : (f : ℕ → ClosedType) → ((v : ℕ) → TypeHas K (f v)) → (s : OpenType) → SchemaHas s → TypeHas K (instance_of f s)
  instance_has f g schemas.omega h = tt
  instance_has f g (schemas.constructor c s) h = (h.0, instance_has f g s h.1)
  instance_has f g (schemas.product s t) h = (instance_has f g s h.0, instance_has f g t h.1)
  instance_has f g (schemas.arrow s t) h = (instance_has f g s h.0, instance_has f g t h.1)
  instance_has f g (schemas.meet s t) h = (instance_has f g s h.0, instance_has f g t h.1)
  instance_has f g (schemas.variable v) h = g v

  abbrev ChoiceHas : List (ℕ × ClosedType) → Type 0
  ChoiceHas c = AllByRecursion (λ (p : ℕ × ClosedType). TypeHas K p.1) c

  chosen_has : (c : List (ℕ × ClosedType)) → ChoiceHas c → (v : ℕ) → TypeHas K (type_for c v)
  chosen_has [] h v = tt
  chosen_has (p ∷ c) h v = elim (v == p.0) as (λ b. TypeHas K (if b then p.1 else type_for c v)) [ true ↦ h.0 | false ↦ chosen_has c h.1 v ]

  kind_has : (ks : List (ℕ × List ClosedType)) → KindsHave ks → (v : ℕ) → EachType (kind_of ks v)
  kind_has [] h v = tt
  kind_has (k ∷ ks) h v = elim (v == k.0) as (λ b. EachType (if b then k.1 else kind_of ks v)) [ true ↦ h.0 | false ↦ kind_has ks h.1 v ]

  ranges_have : (ks : List (ℕ × List ClosedType)) → KindsHave ks → (vs : List ℕ) → KindsHave (map (λ v. (v, kind_of ks v)) vs)
  ranges_have ks h [] = tt
  ranges_have ks h (v ∷ vs) = (kind_has ks h v, ranges_have ks h vs)

  one_more : (v : ℕ) (t : ClosedType) → TypeHas K t → (cs : List (List (ℕ × ClosedType))) → AllByRecursion ChoiceHas cs → AllByRecursion ChoiceHas (map (λ c. (v, t) ∷ c) cs)
  one_more v t h [] k = tt
  one_more v t h (c ∷ cs) k = ((h, k.0), one_more v t h cs k.1)

  each_more : (v : ℕ) (ts : List ClosedType) → EachType ts → (cs : List (List (ℕ × ClosedType))) → AllByRecursion ChoiceHas cs → AllByRecursion ChoiceHas (flat_map (λ t. map (λ c. (v, t) ∷ c) cs) ts)
  each_more v [] h cs k = tt
  each_more v (t ∷ ts) h cs k = all_both ChoiceHas (map (λ c. (v, t) ∷ c) cs) (flat_map (λ u. map (λ c. (v, u) ∷ c) cs) ts) (one_more v t h.0 cs k) (each_more v ts h.1 cs k)

  choices_have : (ranges : List (ℕ × List ClosedType)) → KindsHave ranges → AllByRecursion ChoiceHas (choices_from ranges)
  choices_have [] h = (tt, tt)
  choices_have (r ∷ rs) h = each_more r.0 r.1 h.0 (choices_from rs) (choices_have rs h.1)

  by_choices : (s : OpenType) → SchemaHas s → (cs : List (List (ℕ × ClosedType))) → AllByRecursion ChoiceHas cs → EachType (map (λ c. instance_by c s) cs)
  by_choices s h [] k = tt
  by_choices s h (c ∷ cs) k = (instance_has (type_for c) (chosen_has c k.0) s h, by_choices s h cs k.1)

  meet_has : (ts : List ClosedType) → EachType ts → TypeHas K (all_of ts)
  meet_has [] h = tt
  meet_has (t ∷ ts) h = (h.0, meet_has ts h.1)

  module _ (d : Declared) (kinds : List (ℕ × List ClosedType)) (known : KindsHave kinds) where
    pub component_has : (s : OpenType) (c : Component) → IsComponentOf d kinds s c → SchemaHas s → PathsHave K c.paths
    component_has s c is h =
        let each = by_choices s h (choices_from (ranges_of kinds s)) (choices_have (ranges_of kinds s) (ranges_have kinds known (variables_of s))) in
        let t = all_of (instances_of kinds s) in
        canonical_has K (below_in d) (variances_in d) (is_below-reflexive d) (is_below-transitive d) (is_below-antisymmetric d) c.paths (paths_of (variances_in d) t) is.form.normal.canonical is.form.lower is.form.upper
        (paths_have K (variances_in d) t (meet_has (instances_of kinds s) each))

    abbrev HavePaths : List Component → Type 0
    HavePaths cs = AllByRecursion (λ (c : Component). PathsHave K c.paths) cs

    components_have : {ss : List OpenType} {cs : List Component} → AreComponentsOf d kinds ss cs → AllByRecursion SchemaHas ss → HavePaths cs
    components_have no_components h = tt
    components_have (one_component {s = s} {c = c} is more) h = (component_has s c is h.0, components_have more h.1)

    paths_of_one : (cs : List Component) → HavePaths cs → (x : ℕ) → PathsHave K (paths_in cs x)
    paths_of_one [] h zero = tt
    paths_of_one [] h (suc x) = tt
    paths_of_one (c ∷ cs) h zero = h.0
    paths_of_one (c ∷ cs) h (suc x) = paths_of_one cs h.1 x

    pub library_has : (ss : List OpenType) (l : Library) → IsLibraryOf d kinds ss l → AllByRecursion SchemaHas ss → (x : ℕ) → PathsHave K (paths_at l x)
    library_has ss l is h x = paths_of_one l.components (components_have is.components h) x
