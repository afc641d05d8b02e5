-- What arrows take, argument by argument.
use Rattle.std.specs.Prelude.{ℕ, List, [], ◌∷◌, slice_index_or}
use Rattle.cls_base.specs.Types.{ClosedType, omega, meet}
use Rattle.cls_path.specs.Paths.{none, unit, type_of_paths}
use Rattle.cls_library.specs.Arrows.{MultiArrow}

abbrev pub no_arrow : MultiArrow
no_arrow = record { sources = []; target = unit }

-- what the arrow takes as the argument of this number, counted from 0
abbrev pub source_type : MultiArrow → ℕ → ClosedType
source_type a i = type_of_paths (slice_index_or a.sources i none)

-- the intersection of what the arrows at the positions take as this argument, omega if there is no position
abbrev pub argument_type : List MultiArrow → List ℕ → ℕ → ClosedType
argument_type arrows [] i = omega
argument_type arrows (k ∷ s) i = meet (source_type (slice_index_or arrows k no_arrow) i) (argument_type arrows s i)
