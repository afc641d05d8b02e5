-- The core machine: its rows, its two events, and the histories that they make.
use Rattle.std.specs.Prelude.{◌≡◌, ◌≢◌, ◌<◌, ℕ, ◌-◌, Bool, List, [], ◌∷◌, ◌++◌, Some, length, replicate, slice_get, slice_set}
use Rattle.std.specs.List.{position_or_len, sum_by}
use Rattle.indexmap.specs.IndexSet.{insert_all}
use Rattle.cls_core.specs.declared.state.RowState.{RowState}
use Rattle.cls_core.specs.declared.state.RowState.TheVariants.{Free, Held, Filed}
use Rattle.cls_core.specs.declared.entry.Entry.{Entry}
use Rattle.cls_core.specs.declared.entry.Entry.TheVariants.{Claim, File}
use Rattle.cls_core.specs.declared.answer.Answer.{Answer}
use Rattle.cls_core.specs.Arguments.{arguments_of, map_answer, rule_count}
use Rattle.cls_core.specs.Rows.{Machine, machine}

abbrev pub IsFiled : RowState → Type 0
IsFiled Free = ⊥
IsFiled (Held worker) = ⊥
IsFiled (Filed answer) = Unit {0}

-- 1 if the row is held, and 0 otherwise
abbrev pub held_weight : RowState → ℕ
held_weight Free = 0
held_weight (Held worker) = 1
held_weight (Filed answer) = 0

-- the number of rules of the row if it is filed, and 0 otherwise
abbrev pub rules_weight : RowState → ℕ
rules_weight Free = 0
rules_weight (Held worker) = 0
rules_weight (Filed answer) = rule_count answer

-- the number of rows that are held
abbrev pub held_in : List RowState → ℕ
held_in states = sum_by held_weight states

-- the number of rules of the filed rows together
abbrev pub rules_in : List RowState → ℕ
rules_in states = sum_by rules_weight states

-- each state is filed
abbrev pub EachFiled : List RowState → Type 0
EachFiled states = (row : ℕ) (s : RowState) → slice_get states row ≡ Some s → IsFiled s

-- some state isn't filed
abbrev pub SomeUnfiled : List RowState → Type 0
SomeUnfiled states = (row : ℕ) × (s : RowState) × (slice_get states row ≡ Some s) × (IsFiled s → ⊥)

-- every row is filed
abbrev pub AllFiled : {G : Type 0} → Machine G → Type 0
AllFiled r = EachFiled r.states

-- no row is free
abbrev pub NoneFree : {G : Type 0} → Machine G → Type 0
NoneFree r = (row : ℕ) → slice_get r.states row ≢ Some Free

-- no row below this one is free
abbrev pub NoneFreeBelow : List RowState → ℕ → Type 0
NoneFreeBelow states row = (earlier : ℕ) → earlier < row → slice_get states earlier ≢ Some Free

-- some row is held
abbrev pub SomeHeld : {G : Type 0} → Machine G → Type 0
SomeHeld r = (row : ℕ) × (worker : ℕ) × (slice_get r.states row ≡ Some (Held worker))

-- the machine at its start: one free row
abbrev pub begun : {G : Type 0} → G → Machine G
begun g = machine (g ∷ []) (Free ∷ [])

-- the rows after the worker has claimed this one
abbrev pub claimed : {G : Type 0} → Machine G → ℕ → ℕ → Machine G
claimed r worker row = machine r.goals (slice_set r.states row (Held worker))

module _ {G : Type 0} (eq : G → G → Bool) where
  -- the goals, and behind them in order those of the answer's that aren't among them
  abbrev pub grown : List G → Answer G → List G
  grown gs answer = insert_all eq gs (arguments_of answer)

  -- the answer with numbers of rows in place of goals
  abbrev pub numbered : List G → Answer G → Answer ℕ
  numbered gs answer = map_answer (λ g. position_or_len (eq g) gs) answer

  -- the rows after this one was filed with the answer: each goal that has no row yet gets a free one
  abbrev pub filed : Machine G → ℕ → Answer G → Machine G
  filed r row answer =
      let gs = grown r.goals answer in
      machine gs (slice_set r.states row (Filed (numbered gs answer)) ++ replicate (length gs - length r.goals) Free)

  -- IsAnswer g a: a is an answer of the goal g
  module _ (IsAnswer : G → Answer G → Type 0) where
    -- The worker holds the row. It is filed with an answer of its goal, which leads from the rows r to t.
    pub record IsFiling (r : Machine G) (worker row : ℕ) (t : Machine G) : Type 0 where
      pub goal : G
      pub answer : Answer G
      pub held : slice_get r.states row ≡ Some (Held worker)
      pub has_goal : slice_get r.goals row ≡ Some goal
      pub is_answer : IsAnswer goal answer
      pub rows_after : t ≡ filed r row answer

    -- the event is possible, and leads from the rows r to t
    abbrev pub Steps : Machine G → Entry → Machine G → Type 0
    Steps r (Claim worker row) t = (slice_get r.states row ≡ Some Free) × (t ≡ claimed r worker row)
    Steps r (File worker row) t = IsFiling r worker row t

    -- each event of the history is possible in turn, from the rows r on, and t are the rows after it
    abbrev pub Replays : Machine G → List Entry → Machine G → Type 0
    Replays r [] t = t ≡ r
    Replays r (e ∷ es) t = (m : Machine G) × Steps r e m × Replays m es t
