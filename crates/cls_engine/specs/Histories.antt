-- The histories of a type's closure.
use Rattle.std.specs.Prelude.{ℕ, List}
use Rattle.cls_base.specs.Types.{ClosedType}
use Rattle.cls_core.specs.declared.entry.Entry.{Entry}
use Rattle.cls_core.specs.Machine.{begun, Replays, AllFiled}
use Rattle.cls_core.specs.Rows.{Machine}
use Rattle.cls_table.specs.Lawful.{NamesUpTo}
use Rattle.cls_library.specs.Libraries.{Library}
use Rattle.cls_expand.specs.Answers.{IsAnswer}
use Rattle.cls_engine.specs.Goals.{Goal, same, IsGoalOf}

module _ (lib : Library) (workers : ℕ) where
  -- A legal complete history from the goal, by workers with numbers up to this one.
  pub record IsHistoryFrom (start : Goal) (events : List Entry) : Type 0 where
    pub machine : Machine Goal
    pub legal : Replays same (IsAnswer lib) (begun start) events machine
    pub complete : AllFiled machine
    pub named : NamesUpTo workers events

  -- the same from the goal of the type
  abbrev pub IsHistoryOf : ClosedType → List Entry → Type 0
  IsHistoryOf t events = (goal : Goal) × IsGoalOf lib t goal × IsHistoryFrom goal events
