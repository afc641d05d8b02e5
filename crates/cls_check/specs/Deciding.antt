-- internal: which arrows of a term's head are kept while its arguments are looked at one after another
use Rattle.std.specs.Prelude.{ℕ, ◌≡◌, ◌<◌, List, [], ◌++◌, length, map, Contains, slice_index_or}
use Rattle.cls_base.specs.Terms.{Applicative, component, code_of, IsTermOver}
use Rattle.cls_path.specs.Paths.{TypePath, Paths, none, unit, InPaths, listed, type_of_path, type_of_paths, Suits, SuitsAll}
use Rattle.cls_library.specs.Arrows.{MultiArrow}
use Rattle.cls_library.specs.Libraries.{Library, variances_in}
use Rattle.cls_library.specs.Reaching.{PathLeIn}
use Rattle.cls_library.specs.Typing.{HasTypeIn}

abbrev pub no_arrow : MultiArrow
no_arrow = record { sources = []; target = unit }

-- the arrow at the position, and what it takes at a place
abbrev pub arrow_of : List MultiArrow → ℕ → MultiArrow
arrow_of arrows i = slice_index_or arrows i no_arrow

abbrev pub source_of : MultiArrow → ℕ → Paths
source_of a k = slice_index_or a.sources k none

abbrev pub argument_of : List Applicative → ℕ → Applicative
argument_of es k = slice_index_or es k (component 0)

-- what each of the arrows takes at a place
abbrev pub sources_of : List MultiArrow → ℕ → List Paths
sources_of arrows k = map (λ a. source_of a k) arrows

abbrev pub targets_of : List MultiArrow → Paths
targets_of arrows = listed (map (λ a. a.target) arrows)

-- the path is one of a goal
abbrev pub IsWanted : List Paths → TypePath → Type 0
IsWanted goals q = (n : Paths) × Contains goals n × InPaths n q

module _ (l : Library) where
  abbrev pub SuitIn : TypePath → Type 0
  SuitIn q = Suits (variances_in l.taxonomy) q

  abbrev pub AllSuitIn : Paths → Type 0
  AllSuitIn n = SuitsAll (variances_in l.taxonomy) n

  -- some path of the list is below the path
  abbrev pub SomeBelow : Paths → TypePath → Type 0
  SomeBelow n q = (p : TypePath) × InPaths n p × PathLeIn l p q

  -- the path is below some path of the list
  abbrev pub SomeAbove : Paths → TypePath → Type 0
  SomeAbove n p = (q : TypePath) × InPaths n q × PathLeIn l p q

  -- the targets and sources of the arrows suit the variances
  pub record AreSuited (arrows : List MultiArrow) : Type 0 where
    pub targets : (a : MultiArrow) → Contains arrows a → SuitIn a.target
    pub sources : (a : MultiArrow) (k : ℕ) → Contains arrows a → AllSuitIn (source_of a k)

  -- the path is below a path of a goal
  abbrev pub IsLeading : List Paths → TypePath → Type 0
  IsLeading goals p = (q : TypePath) × IsWanted goals q × PathLeIn l p q

  -- The paths are what the term has, as far as the goals ask: it has each path above one of them, and if it has a path
  -- of a goal, one of them is below it.
  pub record KnowsPaths (e : Applicative) (goals : List Paths) (had : Paths) : Type 0 where
    pub suits : AllSuitIn had
    pub sound : (q : TypePath) → SuitIn q → SomeBelow had q → HasTypeIn l e (type_of_path q)
    pub complete : (q : TypePath) → IsWanted goals q → HasTypeIn l e (type_of_path q) → SomeBelow had q

  -- The numbers are the code of a term and those behind it, and the paths are what the term has, as far as the goals ask.
  pub record IsDecided (goals : List Paths) (code behind : List ℕ) (had : Paths) : Type 0 where
    pub term : Applicative
    pub begins : code ≡ code_of term ++ behind
    pub known : KnowsPaths term goals had

  -- the numbers begin with the code of a term over the library's components
  abbrev pub BeginsWithTermIn : List ℕ → Type 0
  BeginsWithTermIn code =
      (e : Applicative) × IsTermOver (length l.components) e × (behind : List ℕ) × (code ≡ code_of e ++ behind)

  -- the first k terms have what the arrow takes
  abbrev pub HaveFirst : List Applicative → ℕ → MultiArrow → Type 0
  HaveFirst es k a = (j : ℕ) → j < k → HasTypeIn l (argument_of es j) (type_of_paths (source_of a j))

  -- Of the arrows those are kept that lead to a path of a goal and whose first k sources the terms have; others whose
  -- first k sources they have may be kept too.
  pub record AreKept (arrows : List MultiArrow) (goals : List Paths) (es : List Applicative) (k : ℕ)
      (kept : List MultiArrow) : Type 0 where
    pub among : (a : MultiArrow) → Contains kept a → Contains arrows a
    pub sound : (a : MultiArrow) → Contains kept a → HaveFirst es k a
    pub complete :
        (a : MultiArrow) → Contains arrows a → IsLeading goals a.target → HaveFirst es k a → Contains kept a
