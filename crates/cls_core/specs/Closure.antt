-- The closure of a goal, and when it has more goals or rules than a number.
use Rattle.std.specs.Prelude.{◌≡◌, ◌<◌, ◌⊎◌, ℕ, Bool, List, Some, Contains, length, map, slice_get}
use Rattle.std.specs.List.{AllZip, sum_by}
use Rattle.cls_base.specs.Lists.{AreDistinct}
use Rattle.cls_core.specs.declared.answer.Answer.{Answer}
use Rattle.cls_core.specs.Arguments.{arguments_of, rule_count}
use Rattle.cls_core.specs.Machine.{numbered}
use Rattle.cls_core.specs.Rows.{Row}

-- IsAnswer g a: a is an answer of the goal g
module _ {G : Type 0} (IsAnswer : G → Answer G → Type 0) (start : G) where
  -- The closure of the start goal: the least set that holds it and, with each goal, all arguments of its answers.
  pub data IsReached : G → Type 0 where
    at_start : IsReached start
    at_argument : (g h : G) (a : Answer G) → IsReached g → IsAnswer g a → Contains (arguments_of a) h → IsReached h

  -- all goals of the list lie in the closure
  abbrev pub AllReached : List G → Type 0
  AllReached gs = (g : G) → Contains gs g → IsReached g

  -- the closure has more goals than n
  abbrev pub HasMoreGoals : ℕ → Type 0
  HasMoreGoals n = (gs : List G) × AreDistinct gs × AllReached gs × (n < length gs)

  -- Some goals of the closure have answers with more rules together than n. Each answer stands at the place of its goal.
  pub record HasMoreRules (n : ℕ) : Type 0 where
    pub goals : List G
    pub answers : List (Answer G)
    pub distinct : AreDistinct goals
    pub reached : AllReached goals
    pub answered : AllZip IsAnswer goals answers
    pub more : n < sum_by rule_count answers

  -- the closure has more goals than the one number, or more rules than the other
  abbrev pub IsTooLarge : ℕ → ℕ → Type 0
  IsTooLarge goals rules = HasMoreGoals goals ⊎ HasMoreRules rules

abbrev pub goals_of : {G : Type 0} → List (Row G) → List G
goals_of rows = map (λ r. r.goal) rows

module _ {G : Type 0} (eq : G → G → Bool) (IsAnswer : G → Answer G → Type 0) where
  -- the row holds an answer of its goal, with numbers of rows in place of goals
  abbrev pub HoldsAnswer : List G → Row G → Type 0
  HoldsAnswer goals r = (a : Answer G) × IsAnswer r.goal a × (r.answer ≡ numbered eq goals a)

  -- each row of the list holds an answer of its goal
  abbrev pub AllHoldAnswers : List (Row G) → Type 0
  AllHoldAnswers rows = (k : ℕ) (r : Row G) → slice_get rows k ≡ Some r → HoldsAnswer (goals_of rows) r

  -- The rows are the closure. The first one is the start goal, the goals are distinct, they are those that are reached
  -- and no others, and each row holds an answer of its goal, with numbers of rows in place of goals.
  pub record IsClosure (start : G) (rows : List (Row G)) : Type 0 where
    pub first : slice_get (goals_of rows) 0 ≡ Some start
    pub distinct : AreDistinct (goals_of rows)
    pub reached : AllReached IsAnswer start (goals_of rows)
    pub whole : (g : G) → IsReached IsAnswer start g → Contains (goals_of rows) g
    pub answered : AllHoldAnswers rows
