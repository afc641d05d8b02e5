-- What a memo of answers is asked and given, and what the store of answers is.
use Rattle.std.specs.Prelude.{◌≡◌, ◌<◌, ◌≤◌, ℕ, Bool, List, [], ◌∷◌, ◌++◌, Contains, length, map, slice_index_or, if◌then◌else◌}
use Rattle.std.specs.List.{AllZip, list_any, position_or_len, sum_by}
use Rattle.indexmap.specs.IndexSet.{insert_key, insert_all}
use Rattle.cls_core.specs.declared.answer.Answer.{Answer}
use Rattle.cls_core.specs.Arguments.{arguments_of, map_answer, rule_count}
use Rattle.cls_core.specs.Closure.{IsClosure, goals_of}
use Rattle.cls_core.specs.Machine.{numbered}
use Rattle.cls_core.specs.Rows.{Row}

-- the most goals that a memo has to hold, and the most rules of them together
abbrev pub max_memo_goals : ℕ
max_memo_goals = 20000

abbrev pub max_memo_rules : ℕ
max_memo_rules = 1000000

-- the number of rules of the answers together
abbrev pub rules_together : List (Answer ℕ) → ℕ
rules_together answers = sum_by rule_count answers

-- as many rows, and as many rules of them together, as a memo has to hold
abbrev pub FitMemo : {G : Type 0} → List (Row G) → Type 0
FitMemo rows = (length rows ≤ max_memo_goals) × (sum_by (λ r. rule_count r.answer) rows ≤ max_memo_rules)

-- What a store has: goals, the answer of each, and the tag by which they are answers. The goals of an answer are numbers
-- of goals.
pub record StoreSeen (B G : Type 0) : Type 0 where
  pub tag : B
  pub goals : List G
  pub answers : List (Answer ℕ)

-- as many goals, and as many rules of them together, as a memo has to hold
abbrev pub HasRoom : {B G : Type 0} → StoreSeen B G → Type 0
HasRoom s = (length s.goals ≤ max_memo_goals) × (rules_together s.answers ≤ max_memo_rules)

-- the store with the rows alone
abbrev pub alone : {B G : Type 0} → StoreSeen B G → List (Row G) → StoreSeen B G
alone s rows = record { tag = s.tag; goals = goals_of rows; answers = map (λ r. r.answer) rows }

-- each goal of the rows is among the goals
abbrev pub HasGoalsOf : {G : Type 0} → List (Row G) → List G → Type 0
HasGoalsOf {G} rows goals = (g : G) → Contains (goals_of rows) g → Contains goals g

module _ {G : Type 0} (eq : G → G → Bool) where
  -- the rows are the closure of some goal. IsAnswer g a: a is an answer of the goal g
  abbrev pub AreComplete : (G → Answer G → Type 0) → List (Row G) → Type 0
  AreComplete IsAnswer rows = (start : G) × IsClosure eq IsAnswer start rows

  -- the numbers stand for an answer of the goal, all arguments of which are among the goals
  pub record IsHeld (IsAnswer : G → Answer G → Type 0) (goals : List G) (goal : G) (numbers : Answer ℕ) : Type 0 where
    pub answer : Answer G
    pub is_answer : IsAnswer goal answer
    pub closed : (h : G) → Contains (arguments_of answer) h → Contains goals h
    pub is_numbered : numbers ≡ numbered eq goals answer

  -- what holds of a store: each goal has an answer beside it that the tag means, and there is room
  pub record IsStore {B : Type 0} (IsAnswer : B → G → Answer G → Type 0) (s : StoreSeen B G) : Type 0 where
    pub answered : AllZip (IsHeld (IsAnswer s.tag) s.goals) s.goals s.answers
    pub room : HasRoom s

  -- the answer of a row, with the number that each goal of the rows has among all goals
  abbrev pub placed : List G → List (Row G) → Answer ℕ → Answer ℕ
  placed all rows a = map_answer (λ i. slice_index_or (map (λ g. position_or_len (eq g) all) (goals_of rows)) i 0) a

  -- the answers, changed so, of the rows whose goals aren't among the goals
  abbrev pub newcomers : (Answer ℕ → Answer ℕ) → List G → List (Row G) → List (Answer ℕ)
  newcomers change gs [] = []
  newcomers change gs (r ∷ rows) =
      (if list_any (eq r.goal) gs then [] else change r.answer ∷ []) ++ newcomers change (insert_key eq gs r.goal) rows

  -- the store with the rows whose goals it lacks behind what it has
  abbrev pub together : {B : Type 0} → StoreSeen B G → List (Row G) → StoreSeen B G
  together s rows =
      let all = insert_all eq s.goals (goals_of rows) in
      record { tag = s.tag; goals = all; answers = s.answers ++ newcomers (placed all rows) s.goals rows }

  -- what the store has stays beside the rows: it has something, and there is room for both
  abbrev pub KeepsBoth : {B : Type 0} → StoreSeen B G → List (Row G) → Type 0
  KeepsBoth s rows = (0 < length s.goals) × HasRoom (together s rows)

  -- The store s became t by keeping the rows.
  abbrev pub IsKept : {B : Type 0} → StoreSeen B G → List (Row G) → StoreSeen B G → Type 0
  IsKept s rows t =
      (KeepsBoth s rows → t ≡ together s rows) × ((KeepsBoth s rows → ⊥) → t ≡ alone s rows)
