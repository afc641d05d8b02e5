-- When positions of arrows reach a goal, and which types they ask of the arguments.
use Rattle.std.specs.Prelude.{ℕ, zero, suc, ◌≤◌, List, [], ◌∷◌, length, Contains, slice_get, IsSomeAnd}
use Rattle.std.specs.List.{AllZip}
use Rattle.cls_base.specs.Terms.{Applicative}
use Rattle.cls_path.specs.Paths.{TypePath, Paths, none, PathLe, PathsLe, append, InPaths, type_of_paths}
use Rattle.cls_path.specs.NormalForms.{IsNormal}
use Rattle.cls_library.specs.Arrows.{MultiArrow, arity_of}
use Rattle.cls_library.specs.Libraries.{Library, below_in, variances_in, paths_at, arrows_at}
use Rattle.cls_library.specs.Typing.{HasTypeIn}

-- no path for each of n arguments
abbrev pub no_sources : ℕ → List Paths
no_sources zero = []
no_sources (suc n) = none ∷ no_sources n

-- for each argument the paths of both lists, those of the first one first
abbrev pub zip_append : List Paths → List Paths → List Paths
zip_append [] ms = []
zip_append (n ∷ ns) [] = []
zip_append (n ∷ ns) (m ∷ ms) = append n m ∷ zip_append ns ms

-- for each of n arguments the sources that the arrows have there, one after another
abbrev pub columns : ℕ → List MultiArrow → List Paths
columns n [] = no_sources n
columns n (a ∷ rest) = zip_append a.sources (columns n rest)

module _ (l : Library) where
  -- a path is below another, and a list of paths below another, by the library's order of names
  abbrev pub PathLeIn : TypePath → TypePath → Type 0
  PathLeIn p q = PathLe (below_in l.taxonomy) (variances_in l.taxonomy) p q

  abbrev pub PathsLeIn : Paths → Paths → Type 0
  PathsLeIn n m = PathsLe (below_in l.taxonomy) (variances_in l.taxonomy) n m

  -- each path of the goal is above the target of an arrow at one of the positions
  abbrev pub CoversGoal : List MultiArrow → Paths → List ℕ → Type 0
  CoversGoal arrows goal s =
      (q : TypePath) → InPaths goal q → (i : ℕ) × Contains s i × IsSomeAnd (slice_get arrows i) (λ a. PathLeIn a.target q)

  -- n is the normal list equivalent to m
  pub record IsReduced (m n : Paths) : Type 0 where
    pub normal : IsNormal (below_in l.taxonomy) (variances_in l.taxonomy) n
    pub lower : PathsLeIn n m
    pub upper : PathsLeIn m n

  -- an arrow of component x leads to the path, and each argument has its source
  pub record IsReachedBy (x : ℕ) (es : List Applicative) (q : TypePath) : Type 0 where
    pub within : length es ≤ arity_of (paths_at l x)
    pub arrow : MultiArrow
    pub is_one : Contains (arrows_at l x (length es)) arrow
    pub target : PathLeIn arrow.target q
    pub sources : AllZip (λ e n. HasTypeIn l e (type_of_paths n)) es arrow.sources
