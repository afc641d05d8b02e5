-- internal: intersections of several types, and the steps from a type into its parts
use Rattle.std.specs.Prelude.{ℕ, ◌+◌, ◌≤◌, ◌≡◌, ◌↔◌, ◌⊎◌, List, [], ◌∷◌, Option, Some, None}
use Rattle.std.specs.Borrow.{Bor}
use Rattle.cls_base.specs.Types.{ClosedType, nodes, path_count}
use Rattle.cls_base.specs.Taxonomies.{Variance, covariant, contravariant, invariant}
use Rattle.cls_base.specs.Ty.{type_of}
use Rattle.cls_base.specs.declared.ty.Ty.{Ty}
use Rattle.cls_path.specs.Paths.{TypePath, atom, inside, unit, left, right, function, Paths, none, SomeLe, append, map_paths, or_one, paths_of}
use Rattle.cls_norm.specs.declared.subtypes.Step.{Step}
use Rattle.cls_norm.specs.declared.subtypes.Step.TheVariants.{Name, Source, Left, Right}

-- the paths of the intersection of the types
abbrev pub paths_of_all : (ℕ → Variance) → List (Bor Ty) → Paths
paths_of_all v [] = none
paths_of_all v (t ∷ ts) = append (paths_of v (type_of t.now)) (paths_of_all v ts)

-- the new list stands for the intersection of the old one and the type, whatever the variances of names
abbrev pub Joins : ClosedType → List (Bor Ty) → List (Bor Ty) → Type 0
Joins t old new = (v : ℕ → Variance) → paths_of_all v new ≡ append (paths_of_all v old) (paths_of v t)

-- the nodes of the types, and one more for each
abbrev pub nodes_of_all : List (Bor Ty) → ℕ
nodes_of_all [] = 0
nodes_of_all (t ∷ ts) = 1 + nodes (type_of t.now) + nodes_of_all ts

abbrev pub IsFilled : List (Bor Ty) → Type 0
IsFilled [] = ⊥
IsFilled (t ∷ ts) = Unit {0}

-- a name of the step is covariant
abbrev pub Stands : (ℕ → Variance) → Step → Type 0
Stands v (Name c) = v c.0 ≡ covariant
Stands v (Source s) = Unit {0}
Stands v Left = Unit {0}
Stands v Right = Unit {0}

-- the step goes into the argument of the name
abbrev pub IsEntered : (ℕ → ℕ → Type 0) → Step → ℕ → Type 0
IsEntered below (Name c) d = below d c.0
IsEntered below (Source s) d = ⊥
IsEntered below Left d = ⊥
IsEntered below Right d = ⊥

-- behind a source the type has a path
abbrev pub IsAsked : Step → ClosedType → Type 0
IsAsked (Name c) t = Unit {0}
IsAsked (Source s) t = path_count t ≡ 0 → ⊥
IsAsked Left t = Unit {0}
IsAsked Right t = Unit {0}

-- types under names of the variance have no paths of their own
abbrev pub IsSealing : Variance → Type 0
IsSealing w = (w ≡ contravariant) ⊎ (w ≡ invariant)

-- the nodes of the type in the step
abbrev pub nodes_of_step : Step → ℕ
nodes_of_step (Name c) = 0
nodes_of_step (Source s) = nodes (type_of s.now)
nodes_of_step Left = 0
nodes_of_step Right = 0

-- the path whose rest behind the step is this one
abbrev pub path_behind : (ℕ → Variance) → Step → TypePath → TypePath
path_behind v (Name c) q = inside c.0 q
path_behind v (Source s) q = function (paths_of v (type_of s.now)) q
path_behind v Left q = left q
path_behind v Right q = right q

-- the path that ends with the step
abbrev pub path_at : Step → Option TypePath
path_at (Name c) = Some (atom c.0)
path_at (Source s) = None
path_at Left = Some unit
path_at Right = Some unit

-- the paths of a type that has one of these paths behind the step
abbrev pub paths_behind : (ℕ → Variance) → Step → Paths → Paths
paths_behind v (Name c) n = or_one (atom c.0) (map_paths (inside c.0) n)
paths_behind v (Source s) n = map_paths (function (paths_of v (type_of s.now))) n
paths_behind v Left n = or_one unit (map_paths left n)
paths_behind v Right n = or_one unit (map_paths right n)

module _ (below : ℕ → ℕ → Type 0) (variance : ℕ → Variance) where
  -- The new list is the old one and what lies behind the step in the paths: below a path is the new list if the old one is,
  -- or if the paths are below that path behind the step.
  pub record Adds (step : Step) (n : Paths) (size : ℕ) (old new : List (Bor Ty)) : Type 0 where
    pub behind :
        (q : TypePath) → SomeLe below variance (paths_of_all variance new) q
        ↔ (SomeLe below variance (paths_of_all variance old) q ⊎ SomeLe below variance n (path_behind variance step q))
    pub at :
        (p : TypePath) → path_at step ≡ Some p → IsFilled new ↔ (IsFilled old ⊎ SomeLe below variance n p)
    pub small : nodes_of_all new ≤ nodes_of_all old + size
