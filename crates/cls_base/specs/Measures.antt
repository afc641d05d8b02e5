-- Measures of types as far as a call tells them.
use Rattle.std.specs.Prelude.{ℕ, min}
use Rattle.cls_base.specs.Types.{ClosedType, path_count, spread}
use Rattle.cls_base.specs.declared.measures.Place.{Place}
use Rattle.cls_base.specs.declared.measures.Place.TheVariants.{Whole, Source, Factor, Atom}

-- a number, or a million and one where it is greater
abbrev pub capped : ℕ → ℕ
capped n = min 1000001 n

-- the number of paths and the spread, each capped
abbrev pub capped_weight : ClosedType → ℕ × ℕ
capped_weight t = (capped (path_count t), capped (spread t))

-- the strength of the form that is wanted at the place
abbrev pub strength_of : Place → ℕ
strength_of Whole = 0
strength_of Source = 1
strength_of Factor = 2
strength_of Atom = 3
