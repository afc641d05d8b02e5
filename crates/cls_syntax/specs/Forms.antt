-- The forms of lines: what stands in a line in turn, and what each part is for.
use Rattle.std.specs.Prelude.{ℕ, List, [], ◌∷◌, ◌++◌, Option, Some, None, map}
use Rattle.cls_lexer.specs.declared.token.TokenKind.{TokenKind}
use Rattle.cls_lexer.specs.declared.token.TokenKind.TheVariants.{To, And, Times, Open, Close, Comma, Dollar, Bar}
use Rattle.cls_lexer.specs.Words as word
use Rattle.cls_lexer.specs.Words.{Word, name, number, sign}
use Rattle.cls_syntax.specs.declared.role.Role.{Role}
use Rattle.cls_syntax.specs.declared.role.Role.TheVariants.{Constructor, Variable, NewVariable, TermComponent}
use Rattle.cls_syntax.specs.Roles.{MayStand}
use Rattle.cls_syntax.specs.TypeTexts.{TypeText, MeetText, ProductText, AtomText, only_meet, arrow, only_product, meet, only_atom, product, omega, named, applied, variable, inside, TypeList, last, more}
use Rattle.cls_syntax.specs.TermTexts as term
use Rattle.cls_syntax.specs.TermTexts.{TermText, TermList}

pub data Item : Type 0 where
  the_word : (text : List ℕ) → Item
  the_sign : (kind : TokenKind) → Item
  a_name : Role → Item
  -- a number that is to lie in the range; whether it does is tested once the line is read
  a_number : (least greatest : ℕ) → Item
  a_type : Item
  a_term : Item

infixr 30 ◌⨾◌
pub data Form : Type 0 where
  nothing : Form
  ◌⨾◌ : Item → Form → Form
  -- what follows may be left out
  perhaps : Form → Form
  -- up to the end of the line: names, numbers in the range, types with bars between them, or whatever stands there
  names : Role → Form
  numbers : (least greatest : ℕ) → Form
  types : Form
  anything : Form

-- What a line of the form says: texts of names, digits of numbers, texts of types and terms.
abbrev pub Values : Form → Type 0
Values nothing = Unit {0}
Values (the_word x ⨾ f) = Values f
Values (the_sign k ⨾ f) = Values f
Values (a_name r ⨾ f) = List ℕ × Values f
Values (a_number l g ⨾ f) = List ℕ × Values f
Values (a_type ⨾ f) = TypeText × Values f
Values (a_term ⨾ f) = TermText × Values f
Values (perhaps f) = Option (Values f)
Values (names r) = List (List ℕ)
Values (numbers l g) = List (List ℕ)
Values types = TypeList
Values anything = List Word

-- The parts of a line: its words, each with what it is for.
pub data Part : Type 0 where
  fixed : Word → Part
  naming : Role → (text : List ℕ) → Part
  numeral : (least greatest : ℕ) → (digits : List ℕ) → Part

abbrev pub part_word : Part → Word
part_word (fixed w) = w
part_word (naming r x) = name x
part_word (numeral l g d) = number d

abbrev mutual
  pub type_parts : TypeText → List Part
  type_parts (only_meet m) = meet_parts m
  type_parts (arrow m t) = meet_parts m ++ fixed (sign To) ∷ type_parts t

  pub meet_parts : MeetText → List Part
  meet_parts (only_product p) = product_parts p
  meet_parts (meet m p) = meet_parts m ++ fixed (sign And) ∷ product_parts p

  pub product_parts : ProductText → List Part
  product_parts (only_atom a) = atom_parts a
  product_parts (product p a) = product_parts p ++ fixed (sign Times) ∷ atom_parts a

  pub atom_parts : AtomText → List Part
  atom_parts omega = fixed word.omega ∷ []
  atom_parts (named x) = naming Constructor x ∷ []
  atom_parts (applied x t) = naming Constructor x ∷ fixed (sign Open) ∷ (type_parts t ++ fixed (sign Close) ∷ [])
  atom_parts (variable x) = fixed (sign Dollar) ∷ naming Variable x ∷ []
  atom_parts (inside t) = fixed (sign Open) ∷ (type_parts t ++ fixed (sign Close) ∷ [])

abbrev mutual
  pub term_parts : TermText → List Part
  term_parts (term.named x) = naming TermComponent x ∷ []
  term_parts (term.applied x es) = naming TermComponent x ∷ fixed (sign Open) ∷ (terms_parts es ++ fixed (sign Close) ∷ [])

  pub terms_parts : TermList → List Part
  terms_parts (term.last e) = term_parts e
  terms_parts (term.more e es) = term_parts e ++ fixed (sign Comma) ∷ terms_parts es

abbrev pub types_parts : TypeList → List Part
types_parts (last t) = type_parts t
types_parts (more t ts) = type_parts t ++ fixed (sign Bar) ∷ types_parts ts

abbrev pub line_parts : (f : Form) → Values f → List Part
line_parts nothing v = []
line_parts (the_word x ⨾ f) v = fixed (name x) ∷ line_parts f v
line_parts (the_sign k ⨾ f) v = fixed (sign k) ∷ line_parts f v
line_parts (a_name r ⨾ f) v = naming r v.0 ∷ line_parts f v.1
line_parts (a_number l g ⨾ f) v = numeral l g v.0 ∷ line_parts f v.1
line_parts (a_type ⨾ f) v = type_parts v.0 ++ line_parts f v.1
line_parts (a_term ⨾ f) v = term_parts v.0 ++ line_parts f v.1
line_parts (perhaps f) None = []
line_parts (perhaps f) (Some v) = line_parts f v
line_parts (names r) xs = map (naming r) xs
line_parts (numbers l g) ds = map (numeral l g) ds
line_parts types ts = types_parts ts
line_parts anything ws = map fixed ws

-- The words of a line of the form.
abbrev pub line_words : (f : Form) → Values f → List Word
line_words f v = map part_word (line_parts f v)

-- Each name among the parts may stand where it does.
abbrev pub MayAllStand : List Part → Type 0
MayAllStand [] = Unit {0}
MayAllStand (fixed w ∷ ps) = MayAllStand ps
MayAllStand (naming r x ∷ ps) = MayStand r x × MayAllStand ps
MayAllStand (numeral l g d ∷ ps) = MayAllStand ps

abbrev pub LineStands : (f : Form) → Values f → Type 0
LineStands f v = MayAllStand (line_parts f v)

-- The constructors that the parts name, in order, and the variables.
abbrev pub constructors_named : List Part → List (List ℕ)
constructors_named [] = []
constructors_named (naming Constructor x ∷ ps) = x ∷ constructors_named ps
constructors_named (_ ∷ ps) = constructors_named ps

abbrev pub variables_named : List Part → List (List ℕ)
variables_named [] = []
variables_named (naming Variable x ∷ ps) = x ∷ variables_named ps
variables_named (naming NewVariable x ∷ ps) = x ∷ variables_named ps
variables_named (_ ∷ ps) = variables_named ps
