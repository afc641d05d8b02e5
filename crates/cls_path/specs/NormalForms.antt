-- Normal forms: sorted lists of paths of which none is below another, at every depth.
use Rattle.std.specs.Prelude.{ℕ, ◌<◌}
use Rattle.cls_base.specs.Types.{ClosedType}
use Rattle.cls_base.specs.Taxonomies.{Variance}
use Rattle.cls_path.specs.Paths.{TypePath, atom, inside, unit, left, right, function, sealed, Paths, none, more, PathLe, PathsLe, paths_of, SuitsAll}

-- the order of the kinds of path
abbrev pub kind_of : TypePath → ℕ
kind_of (atom c) = 0
kind_of (inside c p) = 1
kind_of unit = 2
kind_of (left p) = 3
kind_of (right p) = 4
kind_of (function n p) = 5
kind_of (sealed c n) = 6

mutual
  -- by kind, then by name, then by the list, a proper prefix first, then by the rest of the path
  pub data PathBefore : TypePath → TypePath → Type 0 where
    by_kind : {p q : TypePath} → kind_of p < kind_of q → PathBefore p q
    atoms : {c d : ℕ} → c < d → PathBefore (atom c) (atom d)
    inside_name : {c d : ℕ} {p q : TypePath} → c < d → PathBefore (inside c p) (inside d q)
    inside_path : {c : ℕ} {p q : TypePath} → PathBefore p q → PathBefore (inside c p) (inside c q)
    lefts : {p q : TypePath} → PathBefore p q → PathBefore (left p) (left q)
    rights : {p q : TypePath} → PathBefore p q → PathBefore (right p) (right q)
    function_list : {n m : Paths} {p q : TypePath} → PathsBefore n m → PathBefore (function n p) (function m q)
    function_path : {n : Paths} {p q : TypePath} → PathBefore p q → PathBefore (function n p) (function n q)
    sealed_name : {c d : ℕ} {n m : Paths} → c < d → PathBefore (sealed c n) (sealed d m)
    sealed_list : {c : ℕ} {n m : Paths} → PathsBefore n m → PathBefore (sealed c n) (sealed c m)

  pub data PathsBefore : Paths → Paths → Type 0 where
    prefix : {q : TypePath} {m : Paths} → PathsBefore none (more q m)
    first : {p q : TypePath} {n m : Paths} → PathBefore p q → PathsBefore (more p n) (more q m)
    rest : {p : TypePath} {n m : Paths} → PathsBefore n m → PathsBefore (more p n) (more p m)

-- the path is before each of the list
abbrev pub Leads : TypePath → Paths → Type 0
Leads p none = Unit {0}
Leads p (more q n) = PathBefore p q × Leads p n

abbrev mutual
  -- the lists in the path are sorted
  pub IsSortedPath : TypePath → Type 0
  IsSortedPath (atom c) = Unit {0}
  IsSortedPath (inside c p) = IsSortedPath p
  IsSortedPath unit = Unit {0}
  IsSortedPath (left p) = IsSortedPath p
  IsSortedPath (right p) = IsSortedPath p
  IsSortedPath (function n p) = IsSorted n × IsSortedPath p
  IsSortedPath (sealed c n) = IsSorted n

  -- strictly sorted at every depth
  pub IsSorted : Paths → Type 0
  IsSorted none = Unit {0}
  IsSorted (more p n) = IsSortedPath p × Leads p n × IsSorted n

module _ (below : ℕ → ℕ → Type 0) (variance : ℕ → Variance) where
  -- the path is before each of the list, and neither below nor above any of it
  abbrev pub LeadsAntichain : TypePath → Paths → Type 0
  LeadsAntichain p none = Unit {0}
  LeadsAntichain p (more q n) =
      PathBefore p q × (PathLe below variance p q → ⊥) × (PathLe below variance q p → ⊥) × LeadsAntichain p n

  abbrev mutual
    pub IsCanonicalPath : TypePath → Type 0
    IsCanonicalPath (atom c) = Unit {0}
    IsCanonicalPath (inside c p) = IsCanonicalPath p
    IsCanonicalPath unit = Unit {0}
    IsCanonicalPath (left p) = IsCanonicalPath p
    IsCanonicalPath (right p) = IsCanonicalPath p
    IsCanonicalPath (function n p) = IsCanonical n × IsCanonicalPath p
    IsCanonicalPath (sealed c n) = IsCanonical n

    pub IsCanonical : Paths → Type 0
    IsCanonical none = Unit {0}
    IsCanonical (more p n) = IsCanonicalPath p × LeadsAntichain p n × IsCanonical n

  -- each path of the list, which need not be sorted itself
  abbrev pub EachCanonical : Paths → Type 0
  EachCanonical none = Unit {0}
  EachCanonical (more p n) = IsCanonicalPath p × EachCanonical n

  -- normal for the taxonomy: each name stands in a form of its variance, and the list is canonical
  pub record IsNormal (n : Paths) : Type 0 where
    pub suits : SuitsAll variance n
    pub canonical : IsCanonical n

  -- the one normal list that is equivalent to the type
  pub record IsNormalForm (t : ClosedType) (n : Paths) : Type 0 where
    pub normal : IsNormal n
    pub lower : PathsLe below variance n (paths_of variance t)
    pub upper : PathsLe below variance (paths_of variance t) n
