-- When a schema is accepted as the next component of a library, and why it is refused. The tests come in this order:
-- too many components, a variable without a kind, too many instances. Then each instance in turn may be too large, take
-- too many arguments, or make the library too large.
use Rattle.std.specs.Prelude.{ℕ, ◌≡◌, ◌+◌, ◌<◌, ◌≤◌, List, [], ◌∷◌, ◌++◌, length}
use Rattle.cls_base.specs.Limits.{max_instances, max_components, max_arity, max_library_weight}
use Rattle.cls_base.specs.Types.{ClosedType, spread}
use Rattle.cls_base.specs.Taxonomies.{Variance}
use Rattle.cls_base.specs.Schemas.{OpenType}
use Rattle.cls_path.specs.Paths.{paths_of}
use Rattle.cls_taxon.specs.Orders.{Declared}
use Rattle.cls_kind.specs.Instances.{count_of, IsSmall}
use Rattle.cls_kind.specs.Kinds.{ranges_of, AreKnown, HasInstances, instances_of}
use Rattle.cls_kind.specs.Faults.{IsFirstUnknown}
use Rattle.cls_kind.specs.declared.fault.KindFault.TheVariants as kind_faults
use Rattle.cls_library.specs.declared.fault.LibraryKind.{LibraryKind}
use Rattle.cls_library.specs.declared.fault.LibraryKind.TheVariants.{TooManyComponents, LibraryTooLarge, Kind, ArityTooLarge, OutOfMemory}
use Rattle.cls_library.specs.declared.fault.LibraryFault.{LibraryFault}
use Rattle.cls_library.specs.Arrows.{arity_of}
use Rattle.cls_library.specs.Libraries.{Library, Component, variances_in, total_of, weight_of, IsComponentOf, AreComponentsOf}

-- variance is the variance of each name, kinds are those of the variables
module _ (variance : ℕ → Variance) where
  -- a path of the type begins with too many arrows
  abbrev pub TakesTooManyArguments : ClosedType → Type 0
  TakesTooManyArguments t = max_arity < arity_of (paths_of variance t)

  -- an instance that is accepted after others of this weight
  pub record IsAcceptable (weight : ℕ) (t : ClosedType) : Type 0 where
    pub small : IsSmall t
    pub arity : arity_of (paths_of variance t) ≤ max_arity
    pub light : weight + (spread t + 1) ≤ max_library_weight

  -- the instances are accepted in turn after others of this weight
  abbrev pub AreAcceptable : ℕ → List ClosedType → Type 0
  AreAcceptable weight [] = Unit {0}
  AreAcceptable weight (t ∷ ts) = IsAcceptable weight t × AreAcceptable (weight + (spread t + 1)) ts

  -- P holds of the first instance that isn't accepted, and of the weight of those before it
  abbrev pub FirstRefused : ℕ → List ClosedType → (ℕ → ClosedType → Type 0) → Type 0
  FirstRefused weight ts P =
      (before after : List ClosedType) × (t : ClosedType) × (ts ≡ before ++ t ∷ after)
      × AreAcceptable weight before × P (weight + weight_of before) t

  -- the instance makes the library too large: the tests before that one pass
  abbrev pub IsTooHeavy : ℕ → ClosedType → Type 0
  IsTooHeavy weight t = (arity_of (paths_of variance t) ≤ max_arity) × (max_library_weight < weight + (spread t + 1))

module _ (d : Declared) (kinds : List (ℕ × List ClosedType)) where
  -- the schema is accepted after so many components of this weight
  pub record IsAccepted (number weight : ℕ) (s : OpenType) : Type 0 where
    pub room : number < max_components
    pub has_instances : HasInstances kinds s
    pub acceptable : AreAcceptable (variances_in d) weight (instances_of kinds s)

  -- why its kinds or its instances are refused after components of this weight; out of memory says nothing
  abbrev pub RefusesSchema : ℕ → OpenType → LibraryKind → Type 0
  RefusesSchema weight s TooManyComponents = ⊥
  RefusesSchema weight s (Kind (kind_faults.UnknownVariable v)) = IsFirstUnknown kinds s v.0
  RefusesSchema weight s (Kind kind_faults.TooManyInstances) =
      AreKnown kinds s × (max_instances < count_of (ranges_of kinds s))
  RefusesSchema weight s (Kind kind_faults.InstanceTooLarge) =
      HasInstances kinds s × FirstRefused (variances_in d) weight (instances_of kinds s) (λ w t. IsSmall t → ⊥)
  RefusesSchema weight s (Kind kind_faults.OutOfMemory) = ⊥
  RefusesSchema weight s ArityTooLarge =
      HasInstances kinds s
      × FirstRefused (variances_in d) weight (instances_of kinds s)
      (λ w t. IsSmall t × TakesTooManyArguments (variances_in d) t)
  RefusesSchema weight s LibraryTooLarge =
      HasInstances kinds s
      × FirstRefused (variances_in d) weight (instances_of kinds s) (λ w t. IsSmall t × IsTooHeavy (variances_in d) w t)
  RefusesSchema weight s OutOfMemory = Unit {0}

  -- why the schema is refused after so many components of this weight
  abbrev pub IsRefused : ℕ → ℕ → OpenType → LibraryKind → Type 0
  IsRefused number weight s TooManyComponents = number ≡ max_components
  IsRefused number weight s kind = (number < max_components) × RefusesSchema weight s kind

  -- the library after the schema was added: as before, with its component last
  pub record Adds (s : OpenType) (old new : Library) : Type 0 where
    pub accepted : IsAccepted (length old.components) (total_of old.components) s
    pub component : Component
    pub of_schema : IsComponentOf d kinds s component
    pub added : new ≡ record { taxonomy = old.taxonomy; components = old.components ++ component ∷ [] }

  -- each schema is accepted after the ones before it
  abbrev pub AreAccepted : ℕ → ℕ → List OpenType → Type 0
  AreAccepted number weight [] = Unit {0}
  AreAccepted number weight (s ∷ ss) =
      IsAccepted number weight s × AreAccepted (number + 1) (weight + weight_of (instances_of kinds s)) ss

  -- the weight of the instances of all schemas
  abbrev pub weight_of_all : List OpenType → ℕ
  weight_of_all [] = 0
  weight_of_all (s ∷ ss) = weight_of (instances_of kinds s) + weight_of_all ss

  -- the library of a list of schemas
  pub record IsLibraryOf (schemas : List OpenType) (l : Library) : Type 0 where
    pub taxonomy : l.taxonomy ≡ d
    pub accepted : AreAccepted 0 0 schemas
    pub components : AreComponentsOf d kinds schemas l.components

  -- the first schema that is refused, and why
  pub record RefusesAt (schemas : List OpenType) (f : LibraryFault) : Type 0 where
    pub before : List OpenType
    pub schema : OpenType
    pub after : List OpenType
    pub split : schemas ≡ before ++ schema ∷ after
    pub accepted : AreAccepted 0 0 before
    pub number : f.component ≡ length before
    pub refused : IsRefused (length before) (weight_of_all before) schema f.kind

-- the schema is accepted as the next component of the library
abbrev pub Accepts : Library → List (ℕ × List ClosedType) → OpenType → Type 0
Accepts l kinds s = IsAccepted l.taxonomy kinds (length l.components) (total_of l.components) s

-- the kind says why the schema is refused as the next component of the library
abbrev pub Refuses : Library → List (ℕ × List ClosedType) → OpenType → LibraryKind → Type 0
Refuses l kinds s kind = IsRefused l.taxonomy kinds (length l.components) (total_of l.components) s kind
