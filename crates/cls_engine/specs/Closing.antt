-- internal: what is known of the closure of a goal, once it is worked out.
use Rattle.std.specs.Prelude.{◌≡◌, List, Some, None}
use Rattle.cls_base.specs.Types.{ClosedType}
use Rattle.cls_core.specs.Canonical.{IsCanonical}
use Rattle.cls_core.specs.Closure.{IsTooLarge}
use Rattle.cls_core.specs.Rows.{Row}
use Rattle.cls_table.specs.declared.tag.Tag.{Tag}
use Rattle.cls_library.specs.Libraries.{Library}
use Rattle.cls_expand.specs.Answers.{IsAnswer, IsReady}
use Rattle.cls_grammar.specs.Grammars.{first_wide}
use Rattle.cls_engine.specs.declared.options.Options.{Options}
use Rattle.cls_engine.specs.declared.fault.EngineFault.{EngineFault}
use Rattle.cls_engine.specs.declared.fault.EngineFault.TheVariants.{Size, TooLarge, Wide, FilterTooLarge, TooManyTerms, OutOfMemory}
use Rattle.cls_engine.specs.Goals.{Goal, same, IsSpread, IsGoalOf}

module _ (lib : Library) (o : Options) where
  -- what the workers are to find, within the limits of the options
  abbrev pub tag_of : Goal → Tag Library Goal
  tag_of start = record { by = lib; start = start; goals = o.goals; rules = o.rules; workers = o.workers }

  abbrev pub IsLargeFrom : Goal → Type 0
  IsLargeFrom start = IsTooLarge (IsAnswer lib) start o.goals o.rules

  -- The rows are the closure of the goal in its canonical numbering, within the limits, and no goal of it is wide.
  pub record IsKnown (start : Goal) (rows : List (Row Goal)) : Type 0 where
    pub ready : IsReady lib start
    pub canonical : IsCanonical same (IsAnswer lib) start rows
    pub none_wide : first_wide rows ≡ None
    pub not_large : IsLargeFrom start → ⊥

  -- The same of the goal of the type, which doesn't have too large a spread.
  pub record IsKnownOf (t : ClosedType) (rows : List (Row Goal)) : Type 0 where
    pub goal : Goal
    pub is_goal : IsGoalOf lib t goal
    pub narrow : IsSpread t → ⊥
    pub known : IsKnown goal rows

  -- Why the closure of the goal isn't known.
  abbrev pub IsClosingFault : Goal → EngineFault → Type 0
  IsClosingFault start TooLarge = IsLargeFrom start
  IsClosingFault start (Wide g) =
      (IsLargeFrom start → ⊥)
      × (rows : List (Row Goal)) × IsCanonical same (IsAnswer lib) start rows × (first_wide rows ≡ Some g)
  IsClosingFault start OutOfMemory = Unit {0}
  IsClosingFault start Size = ⊥
  IsClosingFault start FilterTooLarge = ⊥
  IsClosingFault start TooManyTerms = ⊥
