-- What holds of a table, and of the machine in it, whenever it is there.
use Rattle.std.specs.Prelude.{◌≡◌, ℕ, suc, ◌<◌, ◌≤◌, ◌^◌, Bool, true, List, [], ◌∷◌, Some, length, slice_get}
use Rattle.cls_core.specs.Machine.{begun, Replays, rules_in}
use Rattle.cls_core.specs.Closure.{HoldsAnswer, IsTooLarge}
use Rattle.cls_core.specs.declared.entry.Entry.{Entry}
use Rattle.cls_core.specs.declared.entry.Entry.TheVariants.{Claim, File}
use Rattle.cls_core.specs.declared.answer.Answer.{Answer}
use Rattle.cls_core.specs.declared.state.RowState.TheVariants.{Filed}
use Rattle.cls_table.specs.declared.tag.Tag.{Tag}
use Rattle.cls_table.specs.Seen.{ProgressSeen, TableSeen}

-- the number of Claim entries
abbrev pub claims_in : List Entry → ℕ
claims_in [] = 0
claims_in (Claim worker row ∷ es) = suc (claims_in es)
claims_in (File worker row ∷ es) = claims_in es

-- no entry names a worker above the greatest
abbrev pub NamesUpTo : ℕ → List Entry → Type 0
NamesUpTo most [] = Unit {0}
NamesUpTo most (Claim worker row ∷ es) = (worker ≤ most) × NamesUpTo most es
NamesUpTo most (File worker row ∷ es) = (worker ≤ most) × NamesUpTo most es

-- IsAnswer b g a: the expanders that mean b have the answer a for the goal g
module _ {B G : Type 0} (IsAnswer : B → G → Answer G → Type 0) where
  -- the closure of the tag's start goal has more goals or more rules than the tag's limits
  abbrev pub IsLarge : Tag B G → Type 0
  IsLarge tag = IsTooLarge (IsAnswer tag.by) tag.start tag.goals tag.rules

module _ {B G : Type 0} (eq : G → G → Bool) (IsAnswer : B → G → Answer G → Type 0) where
  -- What holds of the machine and its history under the tag.
  pub record IsLawful (ready : B → G → Type 0) (p : ProgressSeen B G) : Type 0 where
    -- the history is legal, and its replay gives the rows
    pub legal : Replays eq (IsAnswer p.tag.by) (begun p.tag.start) p.history p.rows
    pub workers_named : NamesUpTo p.tag.workers p.history
    pub goals_within : length p.rows.goals ≤ p.tag.goals
    pub rules_within : rules_in p.rows.states ≤ p.tag.rules
    pub goal_limit : p.tag.goals < 2 ^ 32
    pub rule_limit : p.tag.rules < 2 ^ 32
    pub goals_ready : (row : ℕ) (g : G) → slice_get p.rows.goals row ≡ Some g → ready p.tag.by g

  -- What holds of a table.
  pub record IsLawfulTable (t : TableSeen B G) : Type 0 where
    -- the history is legal, and its replay gives the rows
    pub legal : Replays eq (IsAnswer t.tag.by) (begun t.tag.start) t.history t.rows
    pub start_is_first : slice_get t.rows.goals 0 ≡ Some t.tag.start
    -- each filed row holds an answer of its goal, with numbers of rows in place of goals
    pub answered : (row : ℕ) (g : G) (a : Answer ℕ)
        → slice_get t.rows.goals row ≡ Some g → slice_get t.rows.states row ≡ Some (Filed a)
        → HoldsAnswer eq (IsAnswer t.tag.by) t.rows.goals (record { goal = g; answer = a })
    pub goals_within : length t.rows.goals ≤ t.tag.goals
    pub rules_within : rules_in t.rows.states ≤ t.tag.rules
    pub workers_named : NamesUpTo t.tag.workers t.history
    pub claims_counted : claims_in t.history ≡ t.claims
    pub large_with_cause : t.large ≡ true → IsLarge IsAnswer t.tag
