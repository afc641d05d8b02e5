-- The canonical numbering of a closure: breadth first from the start goal, in the order of rules and of arguments within
-- a rule.
use Rattle.std.specs.Prelude.{Bool, List, [], ◌∷◌, ◌++◌, Contains}
use Rattle.std.specs.List.{AllZip}
use Rattle.cls_core.specs.declared.answer.Answer.{Answer}
use Rattle.cls_core.specs.Arguments.{arguments_of}
use Rattle.cls_core.specs.Rows.{Row}
use Rattle.cls_core.specs.Closure.{AllReached, AllHoldAnswers, goals_of}

-- FirstOnes seen xs ys: ys are the elements of xs in their order, each at its first place, without those that were seen
-- before
pub data FirstOnes {A : Type 0} : List A → List A → List A → Type 0 where
  no_more : {seen : List A} → FirstOnes seen [] []
  fresh : {seen xs ys : List A} {x : A}
      → (Contains seen x → ⊥) → FirstOnes (x ∷ seen) xs ys → FirstOnes seen (x ∷ xs) (x ∷ ys)
  again : {seen xs ys : List A} {x : A} → Contains seen x → FirstOnes seen xs ys → FirstOnes seen (x ∷ xs) ys

-- the arguments of each answer in turn
abbrev pub all_arguments : {G : Type 0} → List (Answer G) → List G
all_arguments [] = []
all_arguments (a ∷ rest) = arguments_of a ++ all_arguments rest

-- The goals of the closure in their canonical order: the start goal, and then the arguments of each goal in turn, each
-- at its first place. Each answer stands at the place of its goal.
pub record IsNumbering {G : Type 0} (IsAnswer : G → Answer G → Type 0) (start : G) (goals : List G) : Type 0 where
  pub answers : List (Answer G)
  pub answered : AllZip IsAnswer goals answers
  pub reached : AllReached IsAnswer start goals
  pub breadth_first : FirstOnes [] (start ∷ all_arguments answers) goals

module _ {G : Type 0} (eq : G → G → Bool) (IsAnswer : G → Answer G → Type 0) where
  -- The rows are the closure in its canonical numbering. Each holds an answer of its goal, with numbers of rows in place
  -- of goals.
  pub record IsCanonical (start : G) (rows : List (Row G)) : Type 0 where
    pub numbering : IsNumbering IsAnswer start (goals_of rows)
    pub answered : AllHoldAnswers eq IsAnswer rows
