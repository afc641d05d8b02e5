-- The two readings of typing by a library: a component has each instance of its schema, or the one type that is the
-- intersection of its paths.
use Rattle.std.specs.Prelude.{ℕ, ◌≡◌, ◌<◌, List, length, slice_get, IsSomeAnd}
use Rattle.cls_base.specs.Types.{ClosedType}
use Rattle.cls_base.specs.Terms.{Applicative}
use Rattle.cls_base.specs.Typing.{HasType}
use Rattle.cls_base.specs.Schemas.{OpenType}
use Rattle.cls_taxon.specs.Orders.{Declared}
use Rattle.cls_path.specs.Paths.{type_of_paths}
use Rattle.cls_kind.specs.Kinds.{IsInstance}
use Rattle.cls_library.specs.Libraries.{Library, below_in, variances_in, paths_at}

-- the one type of a component
abbrev pub IsTypeOf : Library → ℕ → ClosedType → Type 0
IsTypeOf l x t = (x < length l.components) × (t ≡ type_of_paths (paths_at l x))

-- a term has a type by the library
abbrev pub HasTypeIn : Library → Applicative → ClosedType → Type 0
HasTypeIn l e t = HasType (below_in l.taxonomy) (variances_in l.taxonomy) (IsTypeOf l) e t

-- the type is an instance of the schema of the component
abbrev pub IsInstanceOf : List (ℕ × List ClosedType) → List OpenType → ℕ → ClosedType → Type 0
IsInstanceOf kinds schemas x t = IsSomeAnd (slice_get schemas x) (λ s. IsInstance kinds s t)

-- a term has a type by the schemas
abbrev pub HasTypeByInstances : Declared → List (ℕ × List ClosedType) → List OpenType → Applicative → ClosedType → Type 0
HasTypeByInstances d kinds schemas e t = HasType (below_in d) (variances_in d) (IsInstanceOf kinds schemas) e t
