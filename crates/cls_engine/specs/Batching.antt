-- internal: what is found of goals that are asked together, in the rows of the closure of their root.
use Rattle.std.specs.Prelude.{ℕ, ◌≡◌, ◌<◌, ◌↔◌, List, Bool, Some, Contains, IsTrue, slice_get}
use Rattle.std.specs.List.{AllZip}
use Rattle.cls_base.specs.Terms.{Applicative}
use Rattle.cls_base.specs.Types.{ClosedType}
use Rattle.cls_callers.specs.declared.goal.AskGoal.{AskGoal}
use Rattle.cls_callers.specs.declared.goal.AskGoal.TheVariants.{Root}
use Rattle.cls_callers.specs.declared.tag.AskTag.{AskTag}
use Rattle.cls_callers.specs.AskGoals.{ask_eq}
use Rattle.cls_callers.specs.Asking.{IsAskAnswer}
use Rattle.cls_callers.specs.Unions.{HasLargeUnion}
use Rattle.cls_core.specs.declared.answer.Answer.TheVariants as answer
use Rattle.cls_core.specs.Canonical.{IsCanonical}
use Rattle.cls_core.specs.Closure.{IsClosure, IsReached}
use Rattle.cls_core.specs.Rows.{Row}
use Rattle.cls_expand.specs.Answers.{IsAnswer, IsReady, HasGoal}
use Rattle.cls_grammar.specs.Grammars.{first_wide}
use Rattle.cls_library.specs.Libraries.{Library}
use Rattle.cls_engine.specs.declared.options.Options.{Options}
use Rattle.cls_engine.specs.declared.fault.EngineFault.{EngineFault}
use Rattle.cls_engine.specs.declared.fault.EngineFault.TheVariants.{Size, TooLarge, Wide, FilterTooLarge, TooManyTerms, OutOfMemory}
use Rattle.cls_engine.specs.Batches.{asked_of}
use Rattle.cls_engine.specs.Goals.{Goal, same, IsGoalOf, IsSpread}

-- the rows are the closure of the root of the asked goals
abbrev pub AreRooted : AskTag Library Goal → List (Row (AskGoal Goal)) → Type 0
AreRooted t rows = IsClosure (ask_eq same) (IsAskAnswer IsAnswer t) Root rows

module _ (lib : Library) where
  -- the goal is that of the type, whose spread is within the limit, and can be worked on
  pub record IsFitGoalOf (t : ClosedType) (g : Goal) : Type 0 where
    pub goal : IsGoalOf lib t g
    pub ready : IsReady lib g
    pub narrow : IsSpread t → ⊥

  -- no goal in the closure of the goal is wide
  abbrev pub HasNoWide : Goal → Type 0
  HasNoWide g = (h : Goal) → IsReached (IsAnswer lib) g h → IsAnswer lib h answer.Wide → ⊥

  -- some term has the goal if and only if that is said
  abbrev pub SaysInhabited : Goal → Bool → Type 0
  SaysInhabited g says = IsTrue says ↔ ((e : Applicative) × HasGoal lib e g)

-- The goal is the first wide one in the closure of the first asked goal in whose closure one is wide.
pub record IsFirstWideOf (t : AskTag Library Goal) (wide : Goal) : Type 0 where
  pub place : ℕ
  pub start : Goal
  pub asked : slice_get t.goals place ≡ Some start
  pub rows : List (Row Goal)
  pub canonical : IsCanonical same (IsAnswer t.by) start rows
  pub is_first : first_wide rows ≡ Some wide
  pub none_before : (k : ℕ) (g : Goal) → k < place → slice_get t.goals k ≡ Some g → HasNoWide t.by g

module _ (lib : Library) (o : Options) (gs : List Goal) where
  abbrev pub IsLargeTogether : Type 0
  IsLargeTogether = HasLargeUnion IsAnswer (asked_of lib gs) o.goals o.rules

  -- It is said of each goal in turn whether some term has it. The closures are within the limits together, and no goal in
  -- them is wide.
  pub record AreDecided (says : List Bool) : Type 0 where
    pub says_each : AllZip (SaysInhabited lib) gs says
    pub not_large : IsLargeTogether → ⊥
    pub none_wide : (g : Goal) → Contains gs g → HasNoWide lib g

  -- why that isn't said
  abbrev pub IsDecidingFault : EngineFault → Type 0
  IsDecidingFault TooLarge = IsLargeTogether
  IsDecidingFault (Wide g) = (IsLargeTogether → ⊥) × IsFirstWideOf (asked_of lib gs) g
  IsDecidingFault OutOfMemory = Unit {0}
  IsDecidingFault Size = ⊥
  IsDecidingFault FilterTooLarge = ⊥
  IsDecidingFault TooManyTerms = ⊥
