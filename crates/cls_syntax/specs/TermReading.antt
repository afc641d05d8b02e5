-- How a term is read from the front of a list of words.
use Rattle.std.specs.Prelude.{ℕ, Bool, true, false, List, [], ◌∷◌, Option, Some, None, Result}
use Rattle.cls_lexer.specs.declared.token.TokenKind.TheVariants.{Open, Close, Comma}
use Rattle.cls_lexer.specs.Words.{Word, name, sign}
use Rattle.cls_syntax.specs.TermTexts.{TermText, TermList, named, applied, last, more}
use Rattle.cls_syntax.specs.Faults.{Stop}
use Rattle.cls_syntax.specs.Machines.{Machine, reading}

-- The open parentheses, the innermost one first, each with the name before it and the terms that were read in it, the
-- last one first.
pub data Outer : Type 0 where
  whole : Outer
  within : Outer → (text : List ℕ) → List TermText → Outer

pub data State : Type 0 where
  operand : Outer → State
  after_name : Outer → (text : List ℕ) → State
  after : Outer → TermText → State

abbrev pub with_terms : List TermText → TermList → TermList
with_terms [] es = es
with_terms (d ∷ ds) es = with_terms ds (more d es)

-- after a term
abbrev pub step_after : Outer → TermText → Word → Option State
step_after (within o x ds) e (sign Comma) = Some (operand (within o x (e ∷ ds)))
step_after (within o x ds) e (sign Close) = Some (after o (applied x (with_terms ds (last e))))
step_after o e _ = None

-- after a name, which a parenthesis may follow
abbrev pub step_name : Outer → List ℕ → Word → Option State
step_name o x (sign Open) = Some (operand (within o x []))
step_name o x w = step_after o (named x) w

abbrev pub step : State → Word → Option State
step (operand o) (name x) = Some (after_name o x)
step (operand o) _ = None
step (after_name o x) w = step_name o x w
step (after o e) w = step_after o e w

-- the term that was read, where it may end here
abbrev pub ended : State → Option TermText
ended (after whole e) = Some e
ended (after_name whole x) = Some (named x)
ended _ = None

abbrev pub wants_name : State → Bool
wants_name (operand o) = true
wants_name _ = false

abbrev pub term_machine : Machine State TermText
term_machine = record { step = step; ended = ended; wants_name = wants_name }

abbrev pub start : State
start = operand whole

-- A term and the words after it, or the stop.
unfoldable pub term_front : List Word → Result (TermText × List Word) Stop
term_front ws = reading term_machine start ws
