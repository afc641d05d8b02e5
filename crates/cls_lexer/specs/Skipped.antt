-- Which lines are texts, and which say nothing.
use Rattle.std.specs.Prelude.{ℕ, ◌≤◌, Bool, true, not, ◌==◌, List, Option, length, IsTrue, find, IsUtf8}
use Rattle.std.specs.Option.{option_map_or}
use Rattle.cls_base.specs.Limits.{max_line_bytes}
use Rattle.cls_lexer.specs.Characters.{is_blank}

-- The line can be read: it isn't too long, and its bytes are characters.
abbrev pub IsText : List ℕ → Type 0
IsText line = (length line ≤ max_line_bytes) × IsUtf8 line

-- The first byte that isn't blank.
abbrev pub first_byte : List ℕ → Option ℕ
first_byte line = find (λ b. not (is_blank b)) line

-- Only blanks stand in the line, or its first byte that isn't blank is `#`.
abbrev pub says_nothing : List ℕ → Bool
says_nothing line = option_map_or (λ b. b == 35) (first_byte line) true

-- The line is a text that says nothing.
abbrev pub IsSkipped : List ℕ → Type 0
IsSkipped line = IsText line × IsTrue (says_nothing line)
