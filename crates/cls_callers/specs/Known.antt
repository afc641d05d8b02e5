-- internal: the answers of goals that the rows of a finished table hold
use Rattle.std.specs.Prelude.{◌≡◌, ℕ, Bool, List, [], ◌∷◌, ◌++◌, length, slice_index_or}
use Rattle.std.specs.List.{position_or_len}
use Rattle.cls_core.specs.declared.answer.Answer.{Answer}
use Rattle.cls_core.specs.declared.entry.Entry.TheVariants.{Claim, File}
use Rattle.cls_core.specs.Arguments.{map_answer}
use Rattle.cls_core.specs.Closure.{goals_of}
use Rattle.cls_core.specs.Machine.{claimed, filed}
use Rattle.cls_core.specs.Renumbering.{row_answer}
use Rattle.cls_core.specs.Rows.{Recorded, Row}
use Rattle.cls_callers.specs.declared.goal.AskGoal.{AskGoal}
use Rattle.cls_callers.specs.declared.goal.AskGoal.TheVariants.{Root, Of}
use Rattle.cls_callers.specs.AskGoals.{ask_eq}

-- goals with their answers, as rows
abbrev pub answered_rows : {G : Type 0} → List G → List (Answer ℕ) → List (Row G)
answered_rows [] answers = []
answered_rows (g ∷ gs) [] = []
answered_rows (g ∷ gs) (a ∷ answers) = record { goal = g; answer = a } ∷ answered_rows gs answers

-- each goal has an answer, and so many there are
pub record AreKnown {G : Type 0} (goals : List G) (answers : List (Answer ℕ)) (count : ℕ) : Type 0 where
  pub paired : length answers ≡ length goals
  pub counted : count ≡ length goals

module _ {G : Type 0} where
  -- the goal, or the other one in place of the root
  abbrev pub goal_or : G → AskGoal G → G
  goal_or other Root = other
  goal_or other (Of g) = g

  -- the goal at a place, or the other one if the root or nothing is there
  abbrev pub goal_at : List (AskGoal G) → G → ℕ → G
  goal_at goals other n = goal_or other (slice_index_or goals n Root)

  module _ (eq : G → G → Bool) where
    -- the place of the goal's row, or the number of rows if it has none
    abbrev pub row_of : List (Row (AskGoal G)) → G → ℕ
    row_of rows g = position_or_len (ask_eq eq (Of g)) (goals_of rows)

    -- The answer that the goal's row holds, with goals in place of numbers. If it has no row, that is the answer of a
    -- wide goal.
    abbrev pub known_answer : List (Row (AskGoal G)) → G → Answer G
    known_answer rows g = map_answer (goal_at (goals_of rows) g) (row_answer rows (row_of rows g))

    abbrev pub IsKnownAnswer : List (Row (AskGoal G)) → G → Answer G → Type 0
    IsKnownAnswer rows g a = a ≡ known_answer rows g

    -- The row was claimed and filed with the answer, which led from the one core to the other.
    pub record IsWorkedOff (old : Recorded G) (row : ℕ) (answer : Answer G) (new : Recorded G) : Type 0 where
      pub rows : new.rows ≡ filed eq (claimed old.rows 0 row) row answer
      pub history : new.history ≡ (old.history ++ Claim 0 row ∷ []) ++ File 0 row ∷ []
