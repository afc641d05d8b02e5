-- How a line of a form is read from the left: the reading of its items, one after another.
use Rattle.std.specs.Prelude.{ℕ, Bool, false, if◌then◌else◌, List, [], ◌∷◌, Option, Some, None, Result, Ok, Err}
use Rattle.cls_lexer.specs.declared.token.TokenKind.TheVariants.{Bar}
use Rattle.cls_lexer.specs.Words.{Word, omega, name, number, sign}
use Rattle.cls_syntax.specs.declared.role.Role.{Role}
use Rattle.cls_syntax.specs.Roles.{may_stand, takes_names}
use Rattle.cls_syntax.specs.Faults.{Stop, stop}
use Rattle.cls_syntax.specs.Fronts.{first_name, first_number, after_word, after_sign}
use Rattle.cls_syntax.specs.TypeTexts.{TypeText}
use Rattle.cls_syntax.specs.TermTexts.{TermText}
use Rattle.cls_syntax.specs.TypeReading.{type_front}
use Rattle.cls_syntax.specs.TermReading.{term_front}
use Rattle.cls_syntax.specs.TypeLists.{types_front}
use Rattle.cls_syntax.specs.Forms.{Item, the_word, the_sign, a_name, a_number, a_type, a_term, Form, nothing, ◌⨾◌, perhaps, names, numbers, types, anything, Values}

-- What an item says: the text of a name, the digits of a number, or a text of the grammar.
abbrev pub ItemValue : Item → Type 0
ItemValue (the_word x) = Unit {0}
ItemValue (the_sign kind) = Unit {0}
ItemValue (a_name r) = List ℕ
ItemValue (a_number l g) = List ℕ
ItemValue a_type = TypeText
ItemValue a_term = TermText

-- What stands in front, or the stop.
abbrev pub or_stop : {A : Type 0} → Bool → List Word → Option (A × List Word) → Result (A × List Word) Stop
or_stop wants ws None = Err (stop ws wants)
or_stop wants ws (Some p) = Ok p

-- What follows a front that says nothing more, or the stop.
abbrev pub after_or_stop : List Word → Option (List Word) → Result (Unit {0} × List Word) Stop
after_or_stop ws None = Err (stop ws false)
after_or_stop ws (Some rest) = Ok (tt, rest)

-- A name that may stand there.
abbrev pub in_role : Role → Option (List ℕ × List Word) → Option (List ℕ × List Word)
in_role r None = None
in_role r (Some p) = if may_stand r p.0 then Some p else None

-- What the item in front says and what is left, or the stop.
abbrev pub item_front : (i : Item) → List Word → Result (ItemValue i × List Word) Stop
item_front (the_word x) ws = after_or_stop ws (after_word x ws)
item_front (the_sign kind) ws = after_or_stop ws (after_sign kind ws)
item_front (a_name r) ws = or_stop (takes_names r) ws (in_role r (first_name ws))
item_front (a_number l g) ws = or_stop false ws (first_number ws)
item_front a_type ws = type_front ws
item_front a_term ws = term_front ws

-- What an item says beside what the rest of the line says.
abbrev pub with_value : (i : Item) (f : Form) → ItemValue i → Values f → Values (i ⨾ f)
with_value (the_word x) f a v = v
with_value (the_sign kind) f a v = v
with_value (a_name r) f a v = (a, v)
with_value (a_number l g) f a v = (a, v)
with_value a_type f a v = (a, v)
with_value a_term f a v = (a, v)

abbrev pub valued : (i : Item) (f : Form) → ItemValue i → Result (Values f) Stop → Result (Values (i ⨾ f)) Stop
valued i f a (Ok v) = Ok (with_value i f a v)
valued i f a (Err e) = Err e

abbrev pub and_then : (i : Item) (f : Form) → (List Word → Result (Values f) Stop) → Result (ItemValue i × List Word) Stop → Result (Values (i ⨾ f)) Stop
and_then i f read (Ok p) = valued i f p.0 (read p.1)
and_then i f read (Err e) = Err e

abbrev pub present : {B E : Type 0} → Result B E → Result (Option B) E
present (Ok b) = Ok (Some b)
present (Err e) = Err e

-- What is read first, in front of what is read after it.
abbrev pub in_front : {A : Type 0} → A → Result (List A) Stop → Result (List A) Stop
in_front a (Ok xs) = Ok (a ∷ xs)
in_front a (Err e) = Err e

-- What one word is read as: a name that may stand there, or a number.
abbrev pub name_text : Role → Word → Option (List ℕ)
name_text r (name x) = if may_stand r x then Some x else None
name_text r omega = None
name_text r (number n) = None
name_text r (sign kind) = None

abbrev pub number_text : Word → Option (List ℕ)
number_text (number n) = Some n
number_text omega = None
number_text (name x) = None
number_text (sign kind) = None

-- Words of one sort, and nothing else.
abbrev pub taken : Bool → List Word → Option (List ℕ) → Result (List (List ℕ)) Stop → Result (List (List ℕ)) Stop
taken wants ws None r = Err (stop ws wants)
taken wants ws (Some x) r = in_front x r

abbrev pub all_read : (Word → Option (List ℕ)) → Bool → List Word → Result (List (List ℕ)) Stop
all_read take wants [] = Ok []
all_read take wants (w ∷ ws) = taken wants (w ∷ ws) (take w) (all_read take wants ws)

-- What was read, and nothing else.
abbrev pub alone : {A : Type 0} → Result (A × List Word) Stop → Result A Stop
alone (Ok (a, [])) = Ok a
alone (Ok (a, w ∷ ws)) = Err (stop (w ∷ ws) false)
alone (Err e) = Err e

-- What a line of the form says, or the stop.
abbrev pub line_read : (f : Form) → List Word → Result (Values f) Stop
line_read nothing [] = Ok tt
line_read nothing (w ∷ ws) = Err (stop (w ∷ ws) false)
line_read (i ⨾ f) ws = and_then i f (λ rest. line_read f rest) (item_front i ws)
line_read (perhaps f) [] = Ok None
line_read (perhaps f) (w ∷ ws) = present (line_read f (w ∷ ws))
line_read (names r) ws = all_read (name_text r) (takes_names r) ws
line_read (numbers l g) ws = all_read number_text false ws
line_read types ws = alone (types_front Bar ws)
line_read anything ws = Ok ws
