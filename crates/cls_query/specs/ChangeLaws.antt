-- What is true of the line of every change, as statements.
use Rattle.std.specs.Prelude.{ℕ, ◌≡◌, ◌⊎◌, List}
use Rattle.cls_base.specs.Firsts.{First, IsDetermined}
use Rattle.cls_lexer.specs.Words.{Word}
use Rattle.cls_query.specs.Changes.{Change, ChangeText, WordsSay}
use Rattle.cls_query.specs.ChangeErrors.{change_errors}
use Rattle.cls_query.specs.Queries.{Tables}
use Rattle.cls_query.specs.ReadChanges.{ReadsChange}

-- Of no line two errors are said.
abbrev pub ChangeErrorsAreDetermined : Type 0
ChangeErrorsAreDetermined =
    (components : List (List ℕ)) (line : List ℕ) → IsDetermined (First (change_errors components line))

-- Words say one change at most.
abbrev pub ChangesAreReadOnce : Type 0
ChangesAreReadOnce = (words : List Word) (said other : ChangeText) → WordsSay said words → WordsSay other words → said ≡ other

-- Of each line an error is said, or it is read as a change.
abbrev pub ChangesAreDecided : Type 0
ChangesAreDecided =
    (tables : Tables) (line : List ℕ)
    → ((words : List ℕ) × First (change_errors tables.components line) words)
    ⊎ ((change : Change) × (after : Tables) × ReadsChange tables line change after)
