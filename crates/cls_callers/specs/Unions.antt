-- The union of the closures of asked goals, and when it has more goals or rules than a number.
use Rattle.std.specs.Prelude.{◌+◌, ◌<◌, ◌⊎◌, ◌↔◌, ℕ, List, Contains, length}
use Rattle.std.specs.List.{AllZip, sum_by}
use Rattle.cls_base.specs.Lists.{AreDistinct}
use Rattle.cls_core.specs.declared.answer.Answer.{Answer}
use Rattle.cls_core.specs.Arguments.{rule_count}
use Rattle.cls_core.specs.Closure.{IsTooLarge}
use Rattle.cls_callers.specs.declared.goal.AskGoal.TheVariants.{Root}
use Rattle.cls_callers.specs.declared.tag.AskTag.{AskTag}
use Rattle.cls_callers.specs.Asking.{IsAskAnswer}
use Rattle.cls_callers.specs.Laws.{IsReachedFromAsked}

-- IsAnswer b g a: the expanders that mean b have the answer a for the goal g
module _ {B G : Type 0} (IsAnswer : B → G → Answer G → Type 0) where
  module _ (t : AskTag B G) where
    -- the closures of the asked goals have more goals together than n
    abbrev pub HasMoreGoalsTogether : ℕ → Type 0
    HasMoreGoalsTogether n =
        (gs : List G) × AreDistinct gs × ((g : G) → Contains gs g → IsReachedFromAsked IsAnswer t g) × (n < length gs)

    -- Some goals of these closures have answers with more rules together than n. Each answer stands at the place of its goal.
    pub record HasMoreRulesTogether (n : ℕ) : Type 0 where
      pub goals : List G
      pub answers : List (Answer G)
      pub distinct : AreDistinct goals
      pub reached : (g : G) → Contains goals g → IsReachedFromAsked IsAnswer t g
      pub answered : AllZip (IsAnswer t.by) goals answers
      pub more : n < sum_by rule_count answers

    -- they have more goals than the one number, or more rules than the other
    abbrev pub HasLargeUnion : ℕ → ℕ → Type 0
    HasLargeUnion goals rules = HasMoreGoalsTogether goals ⊎ HasMoreRulesTogether rules

  -- The root is one goal more, with a rule for each asked goal.
  abbrev pub RootAddsItself : Type 0
  RootAddsItself =
      (t : AskTag B G) (goals rules : ℕ)
      → IsTooLarge (IsAskAnswer IsAnswer t) Root (goals + 1) (rules + length t.goals) ↔ HasLargeUnion t goals rules
