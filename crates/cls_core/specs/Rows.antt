-- What contracts see of the core machine.
use Rattle.std.specs.Prelude.{ℕ, List, [], ◌∷◌}
use Rattle.cls_core.specs.declared.state.RowState.{RowState}
use Rattle.cls_core.specs.declared.state.RowState.TheVariants.{Free, Held, Filed}
use Rattle.cls_core.specs.declared.entry.Entry.{Entry}
use Rattle.cls_core.specs.declared.answer.Answer.{Answer}

-- the rows of the machine: the goal of each, and the state of each
pub record Machine (G : Type 0) : Type 0 where
  pub goals : List G
  pub states : List RowState

abbrev pub machine : {G : Type 0} → List G → List RowState → Machine G
machine gs ss = record { goals = gs; states = ss }

-- the rows, and the events so far
pub record Recorded (G : Type 0) : Type 0 where
  pub rows : Machine G
  pub history : List Entry

-- a filed row
pub record Row (G : Type 0) : Type 0 where
  pub goal : G
  pub answer : Answer ℕ

-- the rows as a list, if all are filed
abbrev pub filed_rows : {G : Type 0} → List G → List RowState → List (Row G)
filed_rows [] states = []
filed_rows (g ∷ gs) [] = []
filed_rows (g ∷ gs) (Filed a ∷ ss) = record { goal = g; answer = a } ∷ filed_rows gs ss
filed_rows (g ∷ gs) (Free ∷ ss) = []
filed_rows (g ∷ gs) (Held worker ∷ ss) = []

-- the answers of the states that are filed
abbrev pub answers_in : List RowState → List (Answer ℕ)
answers_in [] = []
answers_in (Filed a ∷ ss) = a ∷ answers_in ss
answers_in (_ ∷ ss) = answers_in ss
