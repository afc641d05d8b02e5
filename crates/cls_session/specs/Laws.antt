-- What is true of all lines and bytes, as statements on what a repository makes of them.
use Rattle.std.specs.Prelude.{ℕ, ◌≡◌, ◌≤◌, ◌↔◌, ◌⊎◌, List, ◌∷◌, ◌++◌, length}
use Rattle.cls_base.specs.Limits.{max_input_bytes}
use Rattle.cls_lexer.specs.Lines.{lines_of}
use Rattle.cls_engine.specs.declared.options.Options.{Options}
use Rattle.cls_repo.specs.Drafts.{Draft}
use Rattle.cls_repo.specs.Readings.{no_reading, FirstFault}
use Rattle.cls_session.specs.declared.status.Status.{Status}
use Rattle.cls_session.specs.declared.status.Status.TheVariants.{Done}
use Rattle.cls_session.specs.Outputs.{SessionOutput}
use Rattle.cls_session.specs.Repositories.{IsRepository, IsFirstFault, IsWithoutEnd}

-- A repository with the line `end` and lines after it, of at most `max_input_bytes`, is answered to the end: whatever is
-- written, the status is `Done`.
abbrev pub RepositoriesAreAnswered : Type 0
RepositoriesAreAnswered =
    (o : Options) (bytes : List ℕ) (repository queries : List (List ℕ)) (end : List ℕ) (d : Draft)
    → length bytes ≤ max_input_bytes → lines_of bytes ≡ repository ++ end ∷ queries → IsRepository repository end d
    → (text : List ℕ) (status : Status) → SessionOutput o bytes text status → status ≡ Done

-- The first fault that `cls_repo` finds in lines is the one that a session says: of a line, of the repository at its line
-- `end`, or that this line is missing.
abbrev pub FaultsAgree : Type 0
FaultsAgree = (lines : List (List ℕ)) (said : ℕ × List ℕ)
    → FirstFault no_reading lines said ↔ (IsFirstFault lines said ⊎ IsWithoutEnd lines said)
