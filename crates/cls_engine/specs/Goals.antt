-- The goal of a type, and its closure under the rules of a library.
use Rattle.std.specs.Prelude.{ℕ, ◌≡◌, ◌<◌, List, Some, Bool}
use Rattle.std.specs.Ordering.{eq_by_cmp}
use Rattle.cls_base.specs.Limits.{max_type_spread}
use Rattle.cls_base.specs.Types.{ClosedType, spread}
use Rattle.cls_base.specs.Languages.{IsGenerated}
use Rattle.cls_base.specs.Pages.{Request, IsDue}
use Rattle.cls_base.specs.Pools.{IsDecidingSize, PoolIs}
use Rattle.cls_base.specs.declared.rule.Rule.{Rule}
use Rattle.cls_path.specs.Paths.{TypePath, listed, type_of_paths}
use Rattle.cls_path.specs.PathOrder.{list_order}
use Rattle.cls_path.specs.NormalForms.{IsNormalForm}
use Rattle.cls_norm.specs.Fit.{IsFit}
use Rattle.cls_core.specs.Rows.{Row}
use Rattle.cls_core.specs.Closure.{IsTooLarge}
use Rattle.cls_core.specs.Canonical.{IsCanonical}
use Rattle.cls_filter.specs.Automata.{Automaton}
use Rattle.cls_filtered.specs.Filtered.{IsFiltered, HasLargeFilter}
use Rattle.cls_library.specs.Libraries.{Library, below_in, variances_in}
use Rattle.cls_expand.specs.Answers.{IsAnswer}
use Rattle.cls_grammar.specs.Grammars.{book_of, first_wide}

-- a goal as it is kept: the list of its paths
abbrev pub Goal : Type 0
Goal = List TypePath

abbrev pub same : Goal → Goal → Bool
same = eq_by_cmp list_order

-- the type has a spread over the limit
abbrev pub IsSpread : ClosedType → Type 0
IsSpread t = max_type_spread < spread t

module _ (lib : Library) where
  -- the goal is the normal form of the type
  abbrev pub IsGoalOf : ClosedType → Goal → Type 0
  IsGoalOf t g = IsNormalForm (below_in lib.taxonomy) (variances_in lib.taxonomy) t (listed g)

  -- the goal of the type is too large to be worked on
  abbrev pub IsUnfit : ClosedType → Type 0
  IsUnfit t = (g : Goal) × IsGoalOf t g × (IsFit (type_of_paths (listed g)) → ⊥)

  -- the closure of the type's goal has more goals than the one number, or more rules than the other
  abbrev pub HasLargeClosure : ℕ → ℕ → ClosedType → Type 0
  HasLargeClosure goals rules t = (g : Goal) × IsGoalOf t g × IsTooLarge (IsAnswer lib) g goals rules

  -- The rows are the closure of the type's goal in its canonical numbering.
  pub record IsClosed (t : ClosedType) (rows : List (Row Goal)) : Type 0 where
    pub goal : Goal
    pub is_goal : IsGoalOf t goal
    pub fit : IsFit (type_of_paths (listed goal))
    pub canonical : IsCanonical same (IsAnswer lib) goal rows

  -- the first goal of the closure that is wide
  abbrev pub IsFirstWide : ClosedType → Goal → Type 0
  IsFirstWide t g = (rows : List (Row Goal)) × IsClosed t rows × (first_wide rows ≡ Some g)

  -- more terms than the bound are pooled for the page that is asked of the closure, at the size that decides it
  pub record HasLargePool (bound : ℕ) (t : ClosedType) (q : Request) : Type 0 where
    pub rows : List (Row Goal)
    pub closed : IsClosed t rows
    pub size : ℕ
    pub decides : IsDecidingSize (IsDue (IsGenerated (book_of rows) 0) q) q.cost q.take q.max size
    pub count : ℕ
    pub pool : PoolIs (book_of rows) q.cost size count
    pub over : bound < count

  -- the closure of the type's goal, filtered by the automaton, has more rules than the limit
  abbrev pub HasLargeFilterOf : (limit : ℕ) → ClosedType → Automaton → Type 0
  HasLargeFilterOf limit t a = (rows : List (Row Goal)) × IsClosed t rows × HasLargeFilter (book_of rows) a limit

  -- more terms than the bound are pooled for the page that is asked of the filtered closure, at the size that decides it
  pub record HasLargeFilteredPool (bound : ℕ) (t : ClosedType) (a : Automaton) (q : Request) : Type 0 where
    pub rows : List (Row Goal)
    pub closed : IsClosed t rows
    pub book : List (List (Rule ℕ))
    pub filtered : IsFiltered (book_of rows) a book
    pub size : ℕ
    pub decides : IsDecidingSize (IsDue (IsGenerated book 0) q) q.cost q.take q.max size
    pub count : ℕ
    pub pool : PoolIs book q.cost size count
    pub over : bound < count
