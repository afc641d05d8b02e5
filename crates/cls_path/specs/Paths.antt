-- Paths, lists of paths, and their order.
use Rattle.std.specs.Prelude.{ℕ, ◌≡◌, ◌⊎◌, List, [], ◌∷◌}
use Rattle.cls_base.specs.Types.{ClosedType, omega, constructor, product, arrow, meet}
use Rattle.cls_base.specs.Taxonomies.{Variance, covariant, contravariant, invariant}

mutual
  -- A type without intersections on its way to its end.
  pub data TypePath : Type 0 where
    atom : ℕ → TypePath
    inside : ℕ → TypePath → TypePath
    unit : TypePath
    left : TypePath → TypePath
    right : TypePath → TypePath
    function : Paths → TypePath → TypePath
    sealed : ℕ → Paths → TypePath

  -- An intersection of paths.
  pub data Paths : Type 0 where
    none : Paths
    more : TypePath → Paths → Paths

module _ (below : ℕ → ℕ → Type 0) (variance : ℕ → Variance) where
  mutual
    -- the cases in which a path is below another, and no other case
    pub data PathLe : TypePath → TypePath → Type 0 where
      atoms : {c d : ℕ} → below c d → PathLe (atom c) (atom d)
      inside_atom : {c d : ℕ} {p : TypePath} → below c d → PathLe (inside c p) (atom d)
      insides : {c d : ℕ} {p q : TypePath} → below c d → PathLe p q → PathLe (inside c p) (inside d q)
      units : PathLe unit unit
      left_unit : {p : TypePath} → PathLe (left p) unit
      right_unit : {p : TypePath} → PathLe (right p) unit
      lefts : {p q : TypePath} → PathLe p q → PathLe (left p) (left q)
      rights : {p q : TypePath} → PathLe p q → PathLe (right p) (right q)
      functions : {n m : Paths} {p q : TypePath} → PathsLe m n → PathLe p q → PathLe (function n p) (function m q)
      contravariants :
          {c d : ℕ} {n m : Paths} → variance c ≡ contravariant → variance d ≡ contravariant → below c d
          → PathsLe m n → PathLe (sealed c n) (sealed d m)
      invariants :
          {c d : ℕ} {n m : Paths} → variance c ≡ invariant → variance d ≡ invariant → below c d
          → PathsLe n m → PathsLe m n → PathLe (sealed c n) (sealed d m)

    -- some path of the list is below the path
    pub data SomeLe : Paths → TypePath → Type 0 where
      here : {p q : TypePath} {n : Paths} → PathLe p q → SomeLe (more p n) q
      there : {p q : TypePath} {n : Paths} → SomeLe n q → SomeLe (more p n) q

    -- each path of the second list is above some path of the first
    pub data PathsLe : Paths → Paths → Type 0 where
      empty : {n : Paths} → PathsLe n none
      each : {q : TypePath} {n m : Paths} → SomeLe n q → PathsLe n m → PathsLe n (more q m)

abbrev mutual
  -- the type that a path stands for, and the intersection that a list stands for
  pub type_of_path : TypePath → ClosedType
  type_of_path (atom c) = constructor c omega
  type_of_path (inside c p) = constructor c (type_of_path p)
  type_of_path unit = product omega omega
  type_of_path (left p) = product (type_of_path p) omega
  type_of_path (right p) = product omega (type_of_path p)
  type_of_path (function n p) = arrow (type_of_paths n) (type_of_path p)
  type_of_path (sealed c n) = constructor c (type_of_paths n)

  -- nested to the left: omega, the one path, or the first ones and then the last
  pub type_of_paths : Paths → ClosedType
  type_of_paths none = omega
  type_of_paths (more p n) = meets (type_of_path p) n

  -- the type met with those of the paths, one after the other
  pub meets : ClosedType → Paths → ClosedType
  meets s none = s
  meets s (more p n) = meets (meet s (type_of_path p)) n

-- membership: std's `Contains`, over lists inside paths
pub data InPaths : Paths → TypePath → Type 0 where
  first_in : {p : TypePath} {n : Paths} → InPaths (more p n) p
  later_in : {p q : TypePath} {n : Paths} → InPaths n p → InPaths (more q n) p

-- the one list and then the other
abbrev pub append : Paths → Paths → Paths
append none m = m
append (more p n) m = more p (append n m)

-- the function at each path
abbrev pub map_paths : (TypePath → TypePath) → Paths → Paths
map_paths f none = none
map_paths f (more p n) = more (f p) (map_paths f n)

-- the list, or the one path if the list is empty
abbrev pub or_one : TypePath → Paths → Paths
or_one p none = more p none
or_one p (more q n) = more q n

-- the paths of a name of the variance over the paths
abbrev pub constructor_paths : Variance → ℕ → Paths → Paths
constructor_paths covariant c n = or_one (atom c) (map_paths (inside c) n)
constructor_paths contravariant c n = more (sealed c n) none
constructor_paths invariant c n = more (sealed c n) none

-- the paths of a type before any is dropped
abbrev pub paths_of : (ℕ → Variance) → ClosedType → Paths
paths_of v omega = none
paths_of v (constructor c s) = constructor_paths (v c) c (paths_of v s)
paths_of v (product s t) = or_one unit (append (map_paths left (paths_of v s)) (map_paths right (paths_of v t)))
paths_of v (arrow s t) = map_paths (function (paths_of v s)) (paths_of v t)
paths_of v (meet s t) = append (paths_of v s) (paths_of v t)

-- paths and lists in which the names of each form have the variance that it stands for
abbrev mutual
  pub Suits : (ℕ → Variance) → TypePath → Type 0
  Suits v (atom c) = v c ≡ covariant
  Suits v (inside c p) = (v c ≡ covariant) × Suits v p
  Suits v unit = Unit {0}
  Suits v (left p) = Suits v p
  Suits v (right p) = Suits v p
  Suits v (function n p) = SuitsAll v n × Suits v p
  Suits v (sealed c n) = ((v c ≡ contravariant) ⊎ (v c ≡ invariant)) × SuitsAll v n

  pub SuitsAll : (ℕ → Variance) → Paths → Type 0
  SuitsAll v none = Unit {0}
  SuitsAll v (more p n) = Suits v p × SuitsAll v n

-- a list of paths as an intersection of paths
abbrev pub listed : List TypePath → Paths
listed [] = none
listed (p ∷ ps) = more p (listed ps)
