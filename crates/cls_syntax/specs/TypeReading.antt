-- How a type is read from the front of a list of words. That it is read exactly is a law of forms.
use Rattle.std.specs.Prelude.{ℕ, Bool, true, false, List, [], ◌∷◌, Option, Some, None, Result}
use Rattle.cls_lexer.specs.declared.token.TokenKind.TheVariants.{To, And, Times, Open, Close, Dollar}
use Rattle.cls_lexer.specs.Words.{Word, omega, name, sign}
use Rattle.cls_syntax.specs.TypeTexts.{TypeText, MeetText, ProductText, AtomText, only_meet, arrow, only_product, meet, only_atom, product, named, applied, variable, inside, TypeList, last, more}
use Rattle.cls_syntax.specs.TypeTexts as grammar
use Rattle.cls_syntax.specs.Faults.{Stop}
use Rattle.cls_syntax.specs.Machines.{Machine, reading}

-- What opened a parenthesis: nothing, or a name before it.
pub data Opener : Type 0 where
  plain : Opener
  of_name : (text : List ℕ) → Opener

-- What was read of a type up to a place where an atom may stand: the sources, the last one first, and what stands
-- before the last `&` and `*`.
pub data Level : Type 0 where
  level : (sources : List MeetText) → Option MeetText → Option ProductText → Level

-- The open parentheses, the innermost one first, each with what was read before it.
pub data Outer : Type 0 where
  whole : Outer
  within : Outer → Opener → Level → Outer

pub data State : Type 0 where
  operand : Outer → Level → State
  after_dollar : Outer → Level → State
  after_name : Outer → Level → (text : List ℕ) → State
  after : Outer → List MeetText → Option MeetText → ProductText → State

abbrev pub with_product : Option ProductText → AtomText → ProductText
with_product None a = only_atom a
with_product (Some p) a = product p a

abbrev pub with_meet : Option MeetText → ProductText → MeetText
with_meet None p = only_product p
with_meet (Some m) p = meet m p

abbrev pub with_sources : List MeetText → TypeText → TypeText
with_sources [] t = t
with_sources (m ∷ ms) t = with_sources ms (arrow m t)

abbrev pub closed : List MeetText → Option MeetText → ProductText → TypeText
closed ss m p = with_sources ss (only_meet (with_meet m p))

abbrev pub enclosed : Opener → TypeText → AtomText
enclosed plain t = inside t
enclosed (of_name x) t = applied x t

abbrev pub after_atom : Outer → Level → AtomText → State
after_atom o (level ss m p) a = after o ss m (with_product p a)

-- after an atom
abbrev pub step_after : Outer → List MeetText → Option MeetText → ProductText → Word → Option State
step_after o ss m p (sign Times) = Some (operand o (level ss m (Some p)))
step_after o ss m p (sign And) = Some (operand o (level ss (Some (with_meet m p)) None))
step_after o ss m p (sign To) = Some (operand o (level (with_meet m p ∷ ss) None None))
step_after whole ss m p (sign Close) = None
step_after (within o k l) ss m p (sign Close) = Some (after_atom o l (enclosed k (closed ss m p)))
step_after o ss m p _ = None

-- after a name, which a parenthesis may follow
abbrev pub step_name : Outer → Level → List ℕ → Word → Option State
step_name o l x (sign Open) = Some (operand (within o (of_name x) l) (level [] None None))
step_name o (level ss m p) x w = step_after o ss m (with_product p (named x)) w

abbrev pub step : State → Word → Option State
step (operand o l) omega = Some (after_atom o l grammar.omega)
step (operand o l) (name x) = Some (after_name o l x)
step (operand o l) (sign Dollar) = Some (after_dollar o l)
step (operand o l) (sign Open) = Some (operand (within o plain l) (level [] None None))
step (operand o l) _ = None
step (after_dollar o l) (name x) = Some (after_atom o l (variable x))
step (after_dollar o l) _ = None
step (after_name o l x) w = step_name o l x w
step (after o ss m p) w = step_after o ss m p w

-- the type that was read, where it may end here
abbrev pub ended : State → Option TypeText
ended (after whole ss m p) = Some (closed ss m p)
ended (after_name whole (level ss m p) x) = Some (closed ss m (with_product p (named x)))
ended _ = None

abbrev pub wants_name : State → Bool
wants_name (operand o l) = true
wants_name (after_dollar o l) = true
wants_name _ = false

abbrev pub type_machine : Machine State TypeText
type_machine = record { step = step; ended = ended; wants_name = wants_name }

abbrev pub start : State
start = operand whole (level [] None None)

-- A type and the words after it, or the stop.
unfoldable pub type_front : List Word → Result (TypeText × List Word) Stop
type_front ws = reading type_machine start ws
