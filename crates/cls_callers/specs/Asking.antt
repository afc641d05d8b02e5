-- Goals that are asked together, what a root that leads to them means, and the seats of callers.
use Rattle.std.specs.Prelude.{◌≡◌, ◌<◌, ◌≤◌, ◌-◌, ℕ, suc, All, Bool, List, [], ◌∷◌, Some, length, slice_get}
use Rattle.cls_base.specs.declared.rule.Rule.{Rule}
use Rattle.cls_base.specs.declared.rule.Rule.TheVariants.{Head}
use Rattle.cls_core.specs.declared.answer.Answer.{Answer}
use Rattle.cls_core.specs.declared.answer.Answer.TheVariants.{Rules}
use Rattle.cls_core.specs.Arguments.{map_answer}
use Rattle.cls_core.specs.Canonical.{IsCanonical}
use Rattle.cls_core.specs.Rows.{Row}
use Rattle.cls_core.specs.declared.entry.Entry.{Entry}
use Rattle.cls_table.specs.declared.tag.Tag.{Tag}
use Rattle.cls_table.specs.Lawful.{claims_in}
use Rattle.cls_table.specs.Seen.{SeatSeen}
use Rattle.cls_callers.specs.declared.goal.AskGoal.{AskGoal}
use Rattle.cls_callers.specs.declared.goal.AskGoal.TheVariants.{Root, Of}
use Rattle.cls_callers.specs.declared.tag.AskTag.{AskTag}

-- the greatest number of goals that are asked together
abbrev pub max_asked : ℕ
max_asked = 64

module _ {G : Type 0} where
  -- a rule for each of the goals, whose head is the goal's number, the first being k, and whose argument is the goal
  abbrev pub asked_rules : ℕ → List G → List (Rule (AskGoal G))
  asked_rules k [] = []
  asked_rules k (g ∷ gs) = Head k (Of g ∷ []) ∷ asked_rules (suc k) gs

module _ {B G : Type 0} where
  -- The root has a rule for each asked goal, numbered from 1 on. A goal has the rules of its own expander, over goals
  -- again. IsAnswer b g a: the expanders that mean b have the answer a for the goal g.
  abbrev pub IsAskAnswer : (B → G → Answer G → Type 0) → AskTag B G → AskGoal G → Answer (AskGoal G) → Type 0
  IsAskAnswer IsAnswer t Root a = a ≡ Rules (asked_rules 1 t.goals)
  IsAskAnswer IsAnswer t (Of g) a = (b : Answer G) × IsAnswer t.by g b × (a ≡ map_answer Of b)

  -- the root can be worked on if all asked goals can, and a goal if its own expander can work on it
  abbrev pub IsAskReady : (B → G → Type 0) → AskTag B G → AskGoal G → Type 0
  IsAskReady IsReady t Root = All (IsReady t.by) t.goals
  IsAskReady IsReady t (Of g) = IsReady t.by g

  -- at least one goal is asked, and no more than may be, all of which can be worked on
  pub record AreAsked (IsReady : B → G → Type 0) (t : AskTag B G) : Type 0 where
    pub some : 0 < length t.goals
    pub few : length t.goals ≤ max_asked
    pub all_ready : All (IsReady t.by) t.goals

  -- the seat is one of a table of the root that leads to these goals
  pub record IsCaller (asked : AskTag B G) (seat : SeatSeen (AskTag B G) (AskGoal G)) : Type 0 where
    pub tag : Tag (AskTag B G) (AskGoal G)
    pub known : seat.tag ≡ Some tag
    pub means : tag.by ≡ asked
    pub at_root : tag.start ≡ Root

  -- the rows are the closure of the asked goal with this number, the first being 1, in its canonical numbering
  abbrev pub IsAskedClosure : (G → G → Bool) → (B → G → Answer G → Type 0) → AskTag B G → ℕ → List (Row G) → Type 0
  IsAskedClosure eq IsAnswer t k rows =
      (g : G) → slice_get t.goals (k - 1) ≡ Some g → IsCanonical eq (IsAnswer t.by) g rows

-- the seat is one of a table whose expanders mean this
abbrev pub HasMeaning : {B G : Type 0} → SeatSeen B G → B → Type 0
HasMeaning {B} {G} seat by = (t : Tag B G) × (seat.tag ≡ Some t) × (t.by ≡ by)

-- If the seat has every part of the ledger, so many as there are in all, the history has as many claims as its share counts.
abbrev pub CountsAllClaims : {B G : Type 0} → ℕ → SeatSeen B G → List Entry → Type 0
CountsAllClaims parts seat history = seat.parts ≡ parts → claims_in history ≡ seat.amount

-- the seat afterwards is that before, with no fewer claims made
pub record IsAfterAsking {B G : Type 0} (before after : SeatSeen B G) : Type 0 where
  pub turn : after.turn ≡ before.turn
  pub tag : after.tag ≡ before.tag
  pub worker : after.worker ≡ before.worker
  pub parts : after.parts ≡ before.parts
  pub amount : before.amount ≤ after.amount
