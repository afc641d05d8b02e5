-- What a claim, a filing and a stop do to the table.
use Rattle.std.specs.Prelude.{◌≡◌, ℕ, ◌+◌, ◌≤◌, Bool, true, false, [], ◌∷◌, ◌++◌, Some, length, slice_get}
use Rattle.cls_core.specs.Machine.{claimed, filed, grown, rules_in, NoneFree, SomeHeld}
use Rattle.cls_core.specs.Arguments.{arguments_of, rule_count}
use Rattle.cls_core.specs.Rows.{Machine}
use Rattle.cls_core.specs.declared.state.RowState.TheVariants.{Free, Held}
use Rattle.cls_core.specs.declared.entry.Entry.TheVariants.{Claim, File}
use Rattle.cls_core.specs.declared.answer.Answer.{Answer}
use Rattle.cls_table.specs.declared.tag.Tag.{Tag}
use Rattle.cls_table.specs.Seen.{TableSeen, ClaimSeen, FiledSeen}
use Rattle.cls_table.specs.declared.claim.ClaimAnswer.{ClaimAnswer}
use Rattle.cls_table.specs.declared.claim.ClaimAnswer.TheVariants.{Job, Again, Finished, TooLarge}
use Rattle.cls_table.specs.declared.claim.FileAnswer.{FileAnswer}
use Rattle.cls_table.specs.declared.claim.FileAnswer.TheVariants.{Kept, TooLarge as PastLimits, NotHeld}

-- with the answer filed, the table would be within its limits
abbrev pub HasRoom : {B G : Type 0} → (G → G → Bool) → Tag B G → Machine G → Answer G → Type 0
HasRoom eq tag r answer =
    (length (grown eq r.goals answer) ≤ tag.goals) × (rules_in r.states + rule_count answer ≤ tag.rules)

module _ {B G : Type 0} where
  -- the claim that the worker makes of the row, with its goal, if so many claims were made before
  pub record IsClaimOf (tag : Tag B G) (rows : Machine G) (worker row number : ℕ) (c : ClaimSeen B G) : Type 0 where
    pub same_tag : c.tag ≡ tag
    pub by_worker : c.worker ≡ worker
    pub of_row : c.row ≡ row
    pub numbered : c.number ≡ number
    pub row_goal : slice_get rows.goals row ≡ Some c.goal

  -- the table after the worker has claimed the row
  abbrev pub after_claim : TableSeen B G → ℕ → ℕ → TableSeen B G
  after_claim t worker row = record t {
    rows = claimed t.rows worker row;
    history = t.history ++ Claim worker row ∷ [];
    claims = t.claims + 1;
  }

  -- The worker's claim of a row that was free leads from the table t to u.
  pub record IsClaimed (t : TableSeen B G) (worker : ℕ) (c : ClaimSeen B G) (u : TableSeen B G) : Type 0 where
    pub was_free : slice_get t.rows.states c.row ≡ Some Free
    pub claim : IsClaimOf t.tag t.rows worker c.row t.claims c
    pub after : u ≡ after_claim t worker c.row

  -- the worker, who asks for a goal, gets this answer, and the table t becomes u
  abbrev pub ClaimOutcome : {E : Type 0} → TableSeen B G → ℕ → ClaimAnswer E G B → TableSeen B G → Type 0
  ClaimOutcome t worker (Job c) u = (t.large ≡ false) × IsClaimed t worker c u
  ClaimOutcome t worker Again u = (t.large ≡ false) × NoneFree t.rows × SomeHeld t.rows × (u ≡ t)
  ClaimOutcome t worker Finished u = (t.large ≡ false) × NoneFree t.rows × (SomeHeld t.rows → ⊥) × (u ≡ t)
  ClaimOutcome t worker TooLarge u = (t.large ≡ true) × (u ≡ t)

  -- how many claims the answer adds to a share
  abbrev pub claims_made_by : {E : Type 0} → ClaimAnswer E G B → ℕ
  claims_made_by (Job c) = 1
  claims_made_by Again = 0
  claims_made_by Finished = 0
  claims_made_by TooLarge = 0

  abbrev pub stopped_table : TableSeen B G → TableSeen B G
  stopped_table t = record t { stopped = true }

  abbrev pub large_table : TableSeen B G → TableSeen B G
  large_table t = record t { large = true }

  -- the claim's row is held by its worker and has its goal
  abbrev pub IsHeldClaim : Machine G → ClaimSeen B G → Type 0
  IsHeldClaim r c = (slice_get r.states c.row ≡ Some (Held c.worker)) × (slice_get r.goals c.row ≡ Some c.goal)

  module _ (eq : G → G → Bool) where
    -- the table after a filing within the limits
    abbrev pub after_file : TableSeen B G → FiledSeen B G → TableSeen B G
    after_file t f = record t {
      rows = filed eq t.rows f.claim.row f.answer;
      history = t.history ++ File f.claim.worker f.claim.row ∷ [];
    }

    -- the filing gets this answer, and the table t becomes u
    abbrev pub FileOutcome : {E : Type 0} → TableSeen B G → FiledSeen B G → FileAnswer E G B → TableSeen B G → Type 0
    FileOutcome t f (Kept goals) u =
        (goals ≡ arguments_of f.answer) × IsHeldClaim t.rows f.claim × HasRoom eq t.tag t.rows f.answer
        × (u ≡ after_file t f)
    FileOutcome t f PastLimits u =
        IsHeldClaim t.rows f.claim × (HasRoom eq t.tag t.rows f.answer → ⊥) × (u ≡ large_table t)
    FileOutcome t f (NotHeld g) u = (g ≡ f) × (IsHeldClaim t.rows f.claim → ⊥) × (u ≡ t)
