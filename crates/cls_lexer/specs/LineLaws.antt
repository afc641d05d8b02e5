-- The laws of lines that crates above rest on, as statements.
use Rattle.std.specs.Prelude.{ℕ, ◌≡◌, ◌≢◌, List, [], ◌∷◌, ◌++◌}
use Rattle.cls_lexer.specs.Lines.{lines_of, ended_lines, without_return, HasNoFeed, CutsLine, BeginsWith, HasOneMore}

-- A line that is cut off is the first of the lines.
abbrev pub CutIsFirst : (List ℕ → List (List ℕ)) → Type 0
CutIsFirst lines = (text line rest : List ℕ) → CutsLine text line rest → lines text ≡ line ∷ lines rest

-- What follows a text doesn't change the line that is cut off.
abbrev pub CutStays : Type 0
CutStays = (text line rest more : List ℕ) → CutsLine text line rest → CutsLine (text ++ more) line (rest ++ more)

-- Without a line feed no line has ended.
abbrev pub NoneEnded : Type 0
NoneEnded = (held : List ℕ) → HasNoFeed held → ended_lines held ≡ []

-- Bytes without a line feed are one line.
abbrev pub HeldIsLast : Type 0
HeldIsLast = (held : List ℕ) → HasNoFeed held → held ≢ [] → lines_of held ≡ without_return held ∷ []

-- The lines are those that ended, and at most one more.
abbrev pub EndedAreFront : Type 0
EndedAreFront = (text : List ℕ) → HasOneMore (ended_lines text) (lines_of text)

-- A line that ended stays, whatever follows.
abbrev pub EndedStay : (List ℕ → List (List ℕ)) → Type 0
EndedStay lines = (text more : List ℕ) → BeginsWith (ended_lines text) (lines (text ++ more))
