-- What is true of every line, as statements.
use Rattle.std.specs.Prelude.{ℕ, ◌≡◌, ◌⊎◌, List}
use Rattle.cls_base.specs.Firsts.{First, IsDetermined}
use Rattle.cls_lexer.specs.Words.{Word}
use Rattle.cls_syntax.specs.Faults.{Says}
use Rattle.cls_query.specs.Queries.{Tables, Query, QueryText, query_words, QueryStands}
use Rattle.cls_query.specs.QueryErrors.{line_errors}
use Rattle.cls_query.specs.ReadQueries.{ReadsQuery}

-- Of no line two errors are said.
abbrev pub ErrorsAreDetermined : Type 0
ErrorsAreDetermined = (tables : Tables) (line : List ℕ) → IsDetermined (First (line_errors tables line))

-- Words say one query at most.
abbrev pub LinesAreReadOnce : Type 0
LinesAreReadOnce =
    (words : List Word) (said other : QueryText) → Says query_words QueryStands said words
    → Says query_words QueryStands other words → said ≡ other

-- Of each line an error is said, or it is read as a query.
abbrev pub LinesAreDecided : Type 0
LinesAreDecided =
    (tables : Tables) (line : List ℕ)
    → ((words : List ℕ) × First (line_errors tables line) words)
    ⊎ ((query : Query) × (after : Tables) × ReadsQuery tables line query after)
