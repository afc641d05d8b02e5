-- How the lines of a repository are read, one after another.
use Rattle.std.specs.Prelude.{ℕ, ◌≡◌, ◌+◌, ◌⊎◌, Bool, true, false, List, [], ◌∷◌, codes}
use Rattle.cls_base.specs.Firsts.{IsSilent, First}
use Rattle.cls_lexer.specs.Skipped.{IsSkipped}
use Rattle.cls_repo.specs.Directives.{Directive, LineSays, is_end}
use Rattle.cls_repo.specs.Drafts.{Draft, no_draft}
use Rattle.cls_repo.specs.Declarations.{Declares}
use Rattle.cls_repo.specs.LineFaults.{line_faults}
use Rattle.cls_repo.specs.EndFaults.{Fault, end_faults}

-- What was read: what is declared, how many lines there were, and whether `end` was one of them.
pub record Reading : Type 0 where
  pub draft : Draft
  pub lines : ℕ
  pub ended : Bool

-- no line was read
abbrev pub no_reading : Reading
no_reading = record { draft = no_draft; lines = 0; ended = false }

-- The next line is taken: it is skipped, or it is without fault and declares what it says.
pub data Takes (old : Reading) (line : List ℕ) (new : Reading) : Type 0 where
  skipped : IsSkipped line → new ≡ record old { lines = old.lines + 1 } → Takes old line new
  declares :
      (said : Directive) → LineSays line said → IsSilent (First (line_faults old.draft line)) → (draft : Draft)
      → Declares old.draft (old.lines + 1) line said draft
      → new ≡ record { draft = draft; lines = old.lines + 1; ended = is_end said } → Takes old line new

-- The next line is at fault, which is said with the line's number and in words.
pub record Refuses (old : Reading) (line : List ℕ) (said : ℕ × List ℕ) : Type 0 where
  pub unskipped : IsSkipped line → ⊥
  pub number : said.0 ≡ old.lines + 1
  pub first : First (line_faults old.draft line) said.1

-- The lines are taken in turn, up to the line `end` or to the last one.
abbrev pub TakesAll : Reading → List (List ℕ) → Reading → Type 0
TakesAll old [] new = new ≡ old
TakesAll old (line ∷ lines) new =
    (next : Reading) × Takes old line next
    × (((next.ended ≡ true) × (new ≡ next)) ⊎ ((next.ended ≡ false) × TakesAll next lines new))

-- The input ends without the line `end`. The fault stands at the last line.
abbrev pub no_end : Reading → Fault
no_end reading said = (reading.ended ≡ false) × (said ≡ (reading.lines, codes "no-end"))

-- What is wrong with a repository once all its lines were taken.
abbrev pub closing_faults : Reading → List Fault
closing_faults reading = no_end reading ∷ end_faults reading.draft reading.lines

-- The first fault of the lines: of the first line that is at fault, otherwise of the repository.
abbrev pub FirstFault : Reading → List (List ℕ) → Fault
FirstFault old [] said = First (closing_faults old) said
FirstFault old (line ∷ lines) said =
    Refuses old line said
    ⊎ ((next : Reading) × Takes old line next
    × (((next.ended ≡ true) × First (closing_faults next) said) ⊎ ((next.ended ≡ false) × FirstFault next lines said)))
