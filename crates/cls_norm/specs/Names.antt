-- internal: the names of types, and types that are among names
use Rattle.std.specs.Prelude.{ℕ, ◌≡◌, ◌++◌, List, [], ◌∷◌, Contains}
use Rattle.std.specs.Borrow.{Bor}
use Rattle.cls_base.specs.Types as types
use Rattle.cls_base.specs.Types.{ClosedType, constructor, product, arrow, meet}
use Rattle.cls_base.specs.Taxonomies.{Variance, covariant}
use Rattle.cls_base.specs.Ty.{type_of}
use Rattle.cls_base.specs.declared.ty.Ty.{Ty}

-- the name of the type, or nothing if it is no name over a type
abbrev pub name_of : ClosedType → List ℕ
name_of types.omega = []
name_of (constructor c s) = c ∷ []
name_of (product s u) = []
name_of (arrow s u) = []
name_of (meet s u) = []

abbrev pub names_of_all : List (Bor Ty) → List ℕ
names_of_all [] = []
names_of_all (t ∷ ts) = name_of (type_of t.now) ++ names_of_all ts

-- the type is a covariant name over omega, and that is one of the names
abbrev pub IsNamed : (ℕ → Variance) → List ℕ → ClosedType → Type 0
IsNamed v names types.omega = ⊥
IsNamed v names (constructor c s) = (s ≡ types.omega) × (v c ≡ covariant) × Contains names c
IsNamed v names (product s u) = ⊥
IsNamed v names (arrow s u) = ⊥
IsNamed v names (meet s u) = ⊥
