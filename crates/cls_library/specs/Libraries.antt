-- Libraries: components, each as the normal form of the intersection of its instances.
use Rattle.std.specs.Prelude.{ℕ, ◌≡◌, ◌+◌, ◌≤◌, List, [], ◌∷◌, length, All, slice_index_or}
use Rattle.cls_base.specs.Limits.{max_components, max_arity, max_library_weight}
use Rattle.cls_base.specs.Types.{ClosedType, omega, meet, spread}
use Rattle.cls_base.specs.Taxonomies.{Variance}
use Rattle.cls_base.specs.Taxa.{Below}
use Rattle.cls_base.specs.Schemas.{OpenType}
use Rattle.cls_taxon.specs.Orders.{Declared, variance_in}
use Rattle.cls_taxon.specs.Decisions.{is_below}
use Rattle.cls_path.specs.Paths.{Paths, none}
use Rattle.cls_path.specs.NormalForms.{IsNormal, IsNormalForm}
use Rattle.cls_kind.specs.Kinds.{instances_of}
use Rattle.cls_library.specs.Arrows.{MultiArrow, arity_of, arrows_of}

-- A component: the normal form of the intersection of its instances, and its weight.
pub record Component : Type 0 where
  pub paths : Paths
  pub weight : ℕ

-- The order of names that was declared, and the components by their numbers.
pub record Library : Type 0 where
  pub taxonomy : Declared
  pub components : List Component

-- the order of names, and their variances
abbrev pub below_in : Declared → ℕ → ℕ → Type 0
below_in d = Below (is_below d)

abbrev pub variances_in : Declared → ℕ → Variance
variances_in d = variance_in d.variances

abbrev pub no_component : Component
no_component = record { paths = none; weight = 0 }

-- the paths of a component
abbrev pub paths_at : Library → ℕ → Paths
paths_at l x = (slice_index_or l.components x no_component).paths

-- the arrows of a component that take so many arguments
abbrev pub arrows_at : Library → ℕ → ℕ → List MultiArrow
arrows_at l x n = arrows_of n (paths_at l x)

-- the sum of the weights
abbrev pub total_of : List Component → ℕ
total_of [] = 0
total_of (c ∷ cs) = c.weight + total_of cs

-- the intersection of the types, omega if there is none
abbrev pub all_of : List ClosedType → ClosedType
all_of [] = omega
all_of (t ∷ ts) = meet t (all_of ts)

-- the weight of the types, which is one more than the spread for each
abbrev pub weight_of : List ClosedType → ℕ
weight_of [] = 0
weight_of (t ∷ ts) = spread t + 1 + weight_of ts

-- the component of a schema by these kinds
pub record IsComponentOf (d : Declared) (kinds : List (ℕ × List ClosedType)) (s : OpenType) (c : Component) : Type 0 where
  pub form : IsNormalForm (below_in d) (variances_in d) (all_of (instances_of kinds s)) c.paths
  pub weight : c.weight ≡ weight_of (instances_of kinds s)

-- the components of the schemas, one by one
pub data AreComponentsOf (d : Declared) (kinds : List (ℕ × List ClosedType)) : List OpenType → List Component → Type 0 where
  no_components : AreComponentsOf d kinds [] []
  one_component :
      {s : OpenType} {ss : List OpenType} {c : Component} {cs : List Component}
      → IsComponentOf d kinds s c → AreComponentsOf d kinds ss cs → AreComponentsOf d kinds (s ∷ ss) (c ∷ cs)

-- what holds of each component
pub record IsWithinLimits (d : Declared) (c : Component) : Type 0 where
  pub normal : IsNormal (below_in d) (variances_in d) c.paths
  pub arity : arity_of c.paths ≤ max_arity

-- what holds of each library
pub record IsLibrary (l : Library) : Type 0 where
  pub each : All (IsWithinLimits l.taxonomy) l.components
  pub few : length l.components ≤ max_components
  pub light : total_of l.components ≤ max_library_weight
