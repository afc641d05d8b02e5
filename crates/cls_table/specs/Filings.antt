-- internal: what becomes of a machine when a worker files a row
use Rattle.std.specs.Prelude.{◌≡◌, ℕ, Bool, [], ◌∷◌, ◌++◌}
use Rattle.cls_core.specs.Arguments.{arguments_of}
use Rattle.cls_core.specs.Machine.{filed}
use Rattle.cls_core.specs.declared.entry.Entry.TheVariants.{File}
use Rattle.cls_core.specs.declared.answer.Answer.{Answer}
use Rattle.cls_table.specs.Seen.{ProgressSeen}
use Rattle.cls_table.specs.Holdings.{HasRoom}
use Rattle.cls_core.specs.declared.filing.Filing.{Filing}
use Rattle.cls_core.specs.declared.filing.Filing.TheVariants.{Kept, OverLimits}

-- p became q: either the row was filed within the limits, or that would have passed them and nothing changed
abbrev pub FilingOutcome : {B G : Type 0} → (G → G → Bool) → ℕ → ℕ → Answer G → Filing G
    → ProgressSeen B G → ProgressSeen B G → Type 0
FilingOutcome eq worker row answer (Kept goals) p q =
    (goals ≡ arguments_of answer) × HasRoom eq p.tag p.rows answer × (q.rows ≡ filed eq p.rows row answer)
    × (q.history ≡ p.history ++ File worker row ∷ [])
FilingOutcome eq worker row answer OverLimits p q = (HasRoom eq p.tag p.rows answer → ⊥) × (q ≡ p)
