-- internal: what an engine keeps of what came of goals.
use Rattle.std.specs.Prelude.{ℕ, ◌≡◌, ◌↔◌, List, [], Bool, Option, Some, None, Contains, IsTrue, slice_get}
use Rattle.cls_base.specs.Limits.{max_finite_size}
use Rattle.cls_core.specs.Rows.{Row}
use Rattle.cls_finite.specs.declared.answer.FiniteAnswer.{FiniteAnswer}
use Rattle.cls_finite.specs.declared.answer.FiniteAnswer.TheVariants.{Finite, Over}
use Rattle.cls_finite.specs.Answers.{IfFinite, IfInfinite, IsInfinite}
use Rattle.cls_finite.specs.Finiteness.{IsUnbounded, IsGreatest, IsGreatestOver, IsDetermined}
use Rattle.cls_library.specs.Libraries.{Library}
use Rattle.cls_grammar.specs.Grammars.{book_of}
use Rattle.cls_grammar.specs.Ranks.{IsProductiveIn}
use Rattle.cls_engine.specs.declared.fault.EngineFault.{EngineFault}
use Rattle.cls_engine.specs.declared.fault.EngineFault.TheVariants as fault
use Rattle.cls_engine.specs.declared.options.Options.{Options}
use Rattle.cls_engine.specs.declared.outcomes.Decided.{Decided}
use Rattle.cls_engine.specs.declared.outcomes.Outcome.{Outcome}
use Rattle.cls_engine.specs.declared.outcomes.Outcome.TheVariants.{Inhabited, Sizes, TooLarge, Wide}
use Rattle.cls_engine.specs.Closing.{IsKnown, IsClosingFault}
use Rattle.cls_engine.specs.Goals.{Goal}

-- the fault that came of a goal, if one did
abbrev pub fault_in : Outcome → Option EngineFault
fault_in (Inhabited says) = None
fault_in (Sizes answer) = None
fault_in TooLarge = Some fault.TooLarge
fault_in (Wide goal) = Some (fault.Wide goal)

-- the sizes that came of a goal, if they did
abbrev pub sizes_in : Outcome → Option FiniteAnswer
sizes_in (Inhabited says) = None
sizes_in (Sizes answer) = Some answer
sizes_in TooLarge = None
sizes_in (Wide goal) = None

-- what came of a goal tells whether the start is productive. Sizes do too: 0 is told only if there is no term.
abbrev pub TellsVerdict : Outcome → Bool → Type 0
TellsVerdict (Inhabited kept) says = kept ≡ says
TellsVerdict (Sizes answer) says = IsTrue says ↔ (answer ≡ Finite 0 → ⊥)
TellsVerdict TooLarge says = ⊥
TellsVerdict (Wide goal) says = ⊥

-- what is kept at the place is of this goal
abbrev pub IsDecidedAt : List Decided → ℕ → Goal → Type 0
IsDecidedAt kept place goal = (d : Decided) × (slice_get kept place ≡ Some d) × (d.goal ≡ goal)

-- what is kept of the goal tells this verdict
abbrev pub HasVerdict : List Decided → Goal → Bool → Type 0
HasVerdict kept goal says = (d : Decided) × Contains kept d × (d.goal ≡ goal) × TellsVerdict d.outcome says

-- it is kept that these sizes came of the goal
abbrev pub HasSizes : List Decided → Goal → FiniteAnswer → Type 0
HasSizes kept goal answer = (d : Decided) × Contains kept d × (d.goal ≡ goal) × (sizes_in d.outcome ≡ Some answer)

-- it is kept that this fault came of the goal
abbrev pub HasFault : List Decided → Goal → EngineFault → Type 0
HasFault kept goal f = (d : Decided) × Contains kept d × (d.goal ≡ goal) × (fault_in d.outcome ≡ Some f)

-- whether the start of the grammar is productive
abbrev pub IsVerdict : List (Row Goal) → Bool → Type 0
IsVerdict rows says = IsTrue says ↔ IsProductiveIn (book_of rows) 0

-- The answer tells how large the terms of the grammar's start are.
pub record AreSizes (cost : ℕ → ℕ) (rows : List (Row Goal)) (answer : FiniteAnswer) : Type 0 where
  pub greatest : IfFinite answer (IsGreatest (book_of rows) cost)
  pub over : (answer ≡ Over) ↔ IsGreatestOver (book_of rows) cost max_finite_size
  pub infinite : IsInfinite answer ↔ IsUnbounded (book_of rows) cost 0
  pub walk : IfInfinite answer (IsDetermined (book_of rows) cost [] 0)

module _ (lib : Library) (o : Options) where
  -- The start of the goal's grammar is productive if and only if that is said.
  pub record IsVerdictOn (goal : Goal) (says : Bool) : Type 0 where
    pub rows : List (Row Goal)
    pub known : IsKnown lib o goal rows
    pub verdict : IsVerdict rows says

  module _ (cost : ℕ → ℕ) where
    -- The answer tells how large the terms of the start of the goal's grammar are.
    pub record AreSizesOf (goal : Goal) (answer : FiniteAnswer) : Type 0 where
      pub rows : List (Row Goal)
      pub known : IsKnown lib o goal rows
      pub sizes : AreSizes cost rows answer

    -- this came of the goal
    abbrev pub IsOutcome : Goal → Outcome → Type 0
    IsOutcome goal (Inhabited says) = IsVerdictOn goal says
    IsOutcome goal (Sizes answer) = AreSizesOf goal answer
    IsOutcome goal TooLarge = IsClosingFault lib o goal fault.TooLarge
    IsOutcome goal (Wide g) = IsClosingFault lib o goal (fault.Wide g)

    abbrev pub AreOutcomes : List Decided → Type 0
    AreOutcomes kept = (d : Decided) → Contains kept d → IsOutcome d.goal d.outcome
