-- internal: the instances of a schema that were accepted so far, and what comes of the next one
use Rattle.std.specs.Prelude.{ℕ, ◌≡◌, ◌+◌, ◌≤◌, List, ◌++◌}
use Rattle.cls_base.specs.Limits.{max_library_weight}
use Rattle.cls_base.specs.Types.{ClosedType}
use Rattle.cls_base.specs.Schemas.{OpenType}
use Rattle.cls_base.specs.Taxonomies.{Variance}
use Rattle.cls_path.specs.Paths.{TypePath, Paths, listed}
use Rattle.cls_path.specs.NormalForms.{IsNormalForm}
use Rattle.cls_path.specs.PathLists.{ArePathsOf}
use Rattle.cls_taxon.specs.Orders.{Declared}
use Rattle.cls_kind.specs.Kinds.{instances_of}
use Rattle.cls_library.specs.declared.gather.Gathered.{Gathered}
use Rattle.cls_library.specs.declared.fault.LibraryKind.{LibraryKind}
use Rattle.cls_library.specs.declared.fault.LibraryKind.TheVariants.{LibraryTooLarge, ArityTooLarge, OutOfMemory}
use Rattle.cls_library.specs.Libraries.{below_in, variances_in, all_of, weight_of}
use Rattle.cls_library.specs.Refusals.{TakesTooManyArguments, IsTooHeavy, AreAcceptable}

-- why an instance that isn't too large is refused after others of this weight; out of memory says nothing
abbrev pub RefusesInstance : (ℕ → Variance) → ℕ → ClosedType → LibraryKind → Type 0
RefusesInstance variance weight t ArityTooLarge = TakesTooManyArguments variance t
RefusesInstance variance weight t LibraryTooLarge = IsTooHeavy variance weight t
RefusesInstance variance weight t OutOfMemory = Unit {0}
RefusesInstance variance weight t _ = ⊥

-- All instances are accepted after others of the weight `held`. Their intersection is that of the paths n, and w is
-- the weight of all.
pub record AreGathered (d : Declared) (held : ℕ) (ts : List ClosedType) (n : Paths) (w : ℕ) : Type 0 where
  pub acceptable : AreAcceptable (variances_in d) held ts
  pub paths : ArePathsOf (below_in d) (variances_in d) (all_of ts) n
  pub weight : w ≡ held + weight_of ts
  pub light : w ≤ max_library_weight

-- some of the instances are gathered, and the others are left
pub record ArePartlyGathered (d : Declared) (held : ℕ) (all : List ClosedType) (n : Paths) (w : ℕ) (left : List ClosedType) : Type 0 where
  pub before : List ClosedType
  pub split : all ≡ before ++ left
  pub gathered : AreGathered d held before n w

-- all instances of the schema are gathered
abbrev pub HasGathered : Declared → List (ℕ × List ClosedType) → ℕ → OpenType → Gathered → Type 0
HasGathered d kinds held s g = AreGathered d held (instances_of kinds s) (listed g.paths.items) g.weight

-- the new list is the old one with the paths of a normal form of the type behind it
abbrev pub PutsForm : Declared → ClosedType → List TypePath → List TypePath → Type 0
PutsForm d t old new =
    (form : List TypePath) × IsNormalForm (below_in d) (variances_in d) t (listed form) × (new ≡ old ++ form)
