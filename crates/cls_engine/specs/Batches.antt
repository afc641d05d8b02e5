-- What is asked of several types at once: whether some term has each, and why that isn't answered.
use Rattle.std.specs.Prelude.{◌≡◌, ◌↔◌, ◌⊎◌, ℕ, Bool, List, [], ◌∷◌, Contains, IsTrue}
use Rattle.std.specs.List.{AllZip}
use Rattle.cls_base.specs.Firsts.{Cause, FirstAlong}
use Rattle.cls_base.specs.Terms.{Applicative}
use Rattle.cls_base.specs.Types.{ClosedType}
use Rattle.cls_callers.specs.declared.tag.AskTag.{AskTag}
use Rattle.cls_callers.specs.Unions.{HasLargeUnion}
use Rattle.cls_expand.specs.Answers.{IsAnswer}
use Rattle.cls_library.specs.Libraries.{Library}
use Rattle.cls_library.specs.Typing.{HasTypeIn}
use Rattle.cls_engine.specs.declared.options.Options.{Options}
use Rattle.cls_engine.specs.declared.fault.EngineFault.{EngineFault}
use Rattle.cls_engine.specs.declared.fault.EngineFault.TheVariants.{Size, TooLarge, Wide, OutOfMemory}
use Rattle.cls_engine.specs.Goals.{Goal, IsGoalOf, IsSpread, IsUnfit, IsFirstWide}

-- the library, of which these goals are asked
abbrev pub asked_of : Library → List Goal → AskTag Library Goal
asked_of lib gs = record { by = lib; goals = gs }

module _ (lib : Library) where
  -- some term has the type
  abbrev pub IsInhabited : ClosedType → Type 0
  IsInhabited t = (e : Applicative) × HasTypeIn lib e t

  -- for each type in turn whether some term has it
  abbrev pub AreVerdicts : List ClosedType → List Bool → Type 0
  AreVerdicts ts says = AllZip (λ t yes. IsTrue yes ↔ IsInhabited t) ts says

  -- the goals of the types, in their order
  abbrev pub AreGoalsOf : List ClosedType → List Goal → Type 0
  AreGoalsOf ts gs = AllZip (IsGoalOf lib) ts gs

  -- the closures of the types' goals have more goals together than the one number, or more rules than the other
  abbrev pub HasLargeTogether : ℕ → ℕ → List ClosedType → Type 0
  HasLargeTogether goals rules ts =
      (gs : List Goal) × AreGoalsOf ts gs × HasLargeUnion IsAnswer (asked_of lib gs) goals rules

  -- one of the types has a spread over the limit, or its goal is too large
  abbrev pub IsSomeOversized : List ClosedType → Type 0
  IsSomeOversized ts = (t : ClosedType) × Contains ts t × (IsSpread t ⊎ IsUnfit lib t)

  -- one of the types or its goal is too large, or the fault is out of memory
  abbrev pub IsSomeOversizedOr : List ClosedType → EngineFault → Type 0
  IsSomeOversizedOr ts OutOfMemory = Unit {0}
  IsSomeOversizedOr ts f = IsSomeOversized ts × (f ≡ Size)

  -- of the first type in whose closure a goal is wide, the first such goal
  abbrev pub wide_in_turn : List ClosedType → Cause EngineFault
  wide_in_turn ts = FirstAlong (λ before t f. (g : Goal) × IsFirstWide lib t g × (f ≡ Wide g)) ts

-- the closures of the types are made together
abbrev pub batch_faults : Library → Options → List ClosedType → List (Cause EngineFault)
batch_faults lib o ts =
    (λ f. IsSomeOversized lib ts × (f ≡ Size))
    ∷ (λ f. HasLargeTogether lib o.goals o.rules ts × (f ≡ TooLarge))
    ∷ wide_in_turn lib ts
    ∷ []
