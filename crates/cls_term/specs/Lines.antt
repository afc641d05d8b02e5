-- internal: the text of a term as it grows while its code is read from the left, component by component.
--
-- A stack has a number for each list of arguments that is open, the innermost first: how many arguments come in the
-- list behind the one that is written now.
use Rattle.std.specs.Prelude.{ℕ, zero, suc, ◌≡◌, ◌+◌, ◌-◌, ◌*◌, ◌/◌, ◌<◌, ◌≤◌, codes, IsUtf8, List, [], ◌∷◌, ◌++◌, length, slice_index_or, string_bytes}
use Rattle.cls_term.specs.declared.lines.Line.{Line}
use Rattle.cls_term.specs.declared.lines.Standing.{Standing}

-- what stands behind an argument that is whole: the end of each list that it is the last of, and then a comma
abbrev pub close_text : List ℕ → List ℕ
close_text [] = []
close_text (zero ∷ stack) = codes ")" ++ close_text stack
close_text (suc more ∷ stack) = codes ", "

abbrev pub close_stack : List ℕ → List ℕ
close_stack [] = []
close_stack (zero ∷ stack) = close_stack stack
close_stack (suc more ∷ stack) = more ∷ stack

-- what stands behind the name of a component with so many arguments
abbrev pub mark_text : List ℕ → ℕ → List ℕ
mark_text stack zero = close_text stack
mark_text stack (suc more) = codes "("

abbrev pub mark_stack : List ℕ → ℕ → List ℕ
mark_stack stack zero = close_stack stack
mark_stack stack (suc more) = more ∷ stack

-- what the first k components of the code write
abbrev pub text_behind : (ℕ → List ℕ) → List ℕ → ℕ → List ℕ → List ℕ
text_behind name stack zero code = []
text_behind name stack (suc k) [] = []
text_behind name stack (suc k) (x ∷ []) = []
text_behind name stack (suc k) (x ∷ count ∷ code) =
    (name x ++ mark_text stack count) ++ text_behind name (mark_stack stack count) k code

-- the stack behind the first k components of the code
abbrev pub stack_behind : List ℕ → ℕ → List ℕ → List ℕ
stack_behind stack zero code = stack
stack_behind stack (suc k) [] = stack
stack_behind stack (suc k) (x ∷ []) = stack
stack_behind stack (suc k) (x ∷ count ∷ code) = stack_behind (mark_stack stack count) k code

abbrev pub standing_at : List Standing → ℕ → Standing
standing_at standings k = slice_index_or standings k (record { end = 0; left = 0; outer = 0 })

-- behind the first k components the lists of the stack are open
abbrev pub AreOpen : List Standing → ℕ → List ℕ → Type 0
AreOpen standings k [] = (standing_at standings k).left ≡ 0
AreOpen standings k (more ∷ stack) =
    ((standing_at standings k).left ≡ more + 1) × ((standing_at standings k).outer < k)
    × AreOpen standings (standing_at standings k).outer stack

-- the lists of the stack are open behind the last component
pub record IsAtEnd (standings : List Standing) (stack : List ℕ) : Type 0 where
  pub some : 0 < length standings
  pub lists : AreOpen standings (length standings - 1) stack

-- Lists that end were closed at the end of the text: the rest is open behind the first `place` components.
pub record IsClosed (standings : List Standing) (stack old new : List ℕ) (place : ℕ) : Type 0 where
  pub rest : List ℕ
  pub within : place < length standings
  pub lists : AreOpen standings place rest
  pub text : new ++ close_text rest ≡ old ++ close_text stack
  pub stack_then : close_stack rest ≡ close_stack stack

-- The text was written at the end of the line, and the lists of the stack are open behind it.
pub record IsGrown (text stack : List ℕ) (old new : Line) : Type 0 where
  pub bytes : string_bytes new.text ≡ string_bytes old.text ++ text
  pub standing : Standing
  pub standings : new.standings.items ≡ old.standings.items ++ standing ∷ []
  pub end : standing.end ≡ length (string_bytes new.text)
  pub lists : AreOpen new.standings.items (length old.standings.items) stack

-- what stands behind the first k components of the code, in a line that begins with the word
pub record IsStanding (name : ℕ → List ℕ) (word code : List ℕ) (standings : List Standing) (k : ℕ) : Type 0 where
  pub end : (standing_at standings k).end ≡ length (word ++ text_behind name [] k code)
  pub lists : AreOpen standings k (stack_behind [] k code)
  pub utf8 : IsUtf8 (word ++ text_behind name [] k code)

-- The line is the word and what the first k components of the code write, and its standings are those behind them.
pub record IsLine (name : ℕ → List ℕ) (word code : List ℕ) (k : ℕ) (line : Line) : Type 0 where
  pub within : 2 * k ≤ length code
  pub many : length line.standings.items ≡ k + 1
  pub text : string_bytes line.text ≡ word ++ text_behind name [] k code
  pub each : (j : ℕ) → j ≤ k → IsStanding name word code line.standings.items j

-- the line of the whole code
abbrev pub IsWholeLine : (ℕ → List ℕ) → List ℕ → List ℕ → Line → Type 0
IsWholeLine name word code line = IsLine name word code (length code / 2) line
