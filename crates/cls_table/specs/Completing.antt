-- What is finished under a tag, and what becomes of a machine whose rows are filed one after the other.
use Rattle.std.specs.Prelude.{◌≡◌, ℕ, ◌≤◌, Bool, List, ◌++◌, Some, Contains, length, slice_get}
use Rattle.std.specs.Option.{ForSome}
use Rattle.cls_core.specs.Rows.{Machine, filed_rows}
use Rattle.cls_core.specs.Machine.{begun, Replays, AllFiled, rules_in}
use Rattle.cls_core.specs.declared.state.RowState.TheVariants.{Filed}
use Rattle.cls_core.specs.declared.entry.Entry.{Entry}
use Rattle.cls_core.specs.declared.entry.Entry.TheVariants.{Claim}
use Rattle.cls_core.specs.declared.answer.Answer.{Answer}
use Rattle.cls_core.specs.declared.finished.Finished.{Finished}
use Rattle.cls_table.specs.Seen.{ProgressSeen, SeatSeen}
use Rattle.cls_core.specs.Closure.{IsClosure}
use Rattle.cls_core.specs.Times.{EachOnce}
use Rattle.cls_table.specs.Lawful.{NamesUpTo, IsLarge}
use Rattle.cls_table.specs.declared.tag.Tag.{Tag}

-- the row is filed
abbrev pub IsFiledAt : {G : Type 0} → Machine G → ℕ → Type 0
IsFiledAt r row = (a : Answer ℕ) × (slice_get r.states row ≡ Some (Filed a))

-- each claim among the entries is by the caller of `Table::complete`, which is the worker 0
abbrev pub ClaimsAreByCaller : List Entry → Type 0
ClaimsAreByCaller es = (worker row : ℕ) → Contains es (Claim worker row) → worker ≡ 0

-- q is p with more events under the same tag, of which the claims are by the caller. What was filed stays so.
pub record Continues {B G : Type 0} (p q : ProgressSeen B G) : Type 0 where
  pub same_tag : q.tag ≡ p.tag
  pub more : (es : List Entry) × (q.history ≡ p.history ++ es) × ClaimsAreByCaller es
  pub stays_filed : (row : ℕ) → IsFiledAt p.rows row → IsFiledAt q.rows row

-- What was finished under the tag: its history is legal and complete, and has the rows as its replay, within the limits
-- of the tag and by workers that are named up to the greatest. So the rows are the closure of the tag's start goal,
-- each is claimed once and filed once, and the closure is within the limits.
pub record IsComplete {B G : Type 0} (eq : G → G → Bool) (IsAnswer : B → G → Answer G → Type 0) (tag : Tag B G)
    (f : Finished G) : Type 0 where
  pub rows : Machine G
  pub legal : Replays eq (IsAnswer tag.by) (begun tag.start) f.history rows
  pub all_filed : AllFiled rows
  pub shown_rows : f.rows ≡ filed_rows rows.goals rows.states
  pub goals_within : length rows.goals ≤ tag.goals
  pub rules_within : rules_in rows.states ≤ tag.rules
  pub workers_named : NamesUpTo tag.workers f.history
  pub closure : IsClosure eq (IsAnswer tag.by) tag.start f.rows
  pub each_once : EachOnce (length f.rows) f.history
  pub not_large : IsLarge IsAnswer tag → ⊥

-- what was finished is so under the seat's tag
abbrev pub IsCompleteFor : {B G : Type 0} → (G → G → Bool) → (B → G → Answer G → Type 0) → SeatSeen B G → Finished G
    → Type 0
IsCompleteFor eq IsAnswer seat f = ForSome seat.tag (λ t. IsComplete eq IsAnswer t f)

-- What was finished goes on from p: its history begins with that of p, and each claim behind it is by the caller.
pub record IsCompletion {B G : Type 0} (eq : G → G → Bool) (IsAnswer : B → G → Answer G → Type 0) (p : ProgressSeen B G)
    (f : Finished G) : Type 0 where
  pub complete : IsComplete eq IsAnswer p.tag f
  pub more : (es : List Entry) × (f.history ≡ p.history ++ es) × ClaimsAreByCaller es
