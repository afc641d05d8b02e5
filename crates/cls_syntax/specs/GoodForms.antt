-- Forms whose lines can be read from the left, with one word of sight.
use Rattle.std.specs.Prelude.{Bool, true, false, IsTrue}
use Rattle.cls_lexer.specs.declared.token.TokenKind.{TokenKind}
use Rattle.cls_lexer.specs.declared.token.TokenKind.TheVariants.{Comma, Colon, Equals, Bar, AtMost}
use Rattle.cls_syntax.specs.Forms.{Item, the_word, the_sign, a_name, a_number, a_type, a_term, Form, nothing, ◌⨾◌, perhaps, names, numbers, types, anything}

-- No type and no term goes on with the sign.
abbrev pub ends_type : TokenKind → Bool
ends_type Comma = true
ends_type Colon = true
ends_type Equals = true
ends_type Bar = true
ends_type AtMost = true
ends_type _ = false

abbrev pub EndsType : TokenKind → Type 0
EndsType kind = IsTrue (ends_type kind)

-- The item is one word.
abbrev pub IsWord : Item → Type 0
IsWord a_type = ⊥
IsWord a_term = ⊥
IsWord _ = Unit {0}

-- The second item shows where the first one ends.
abbrev pub MayFollow : Item → Item → Type 0
MayFollow i (the_word x) = Unit {0}
MayFollow a_type (the_sign kind) = EndsType kind
MayFollow a_term (the_sign kind) = EndsType kind
MayFollow i (the_sign kind) = Unit {0}
MayFollow i (a_name r) = Unit {0}
MayFollow i (a_number l g) = Unit {0}
MayFollow i a_type = IsWord i
MayFollow i a_term = IsWord i

-- What comes next in the form shows where the item ends.
abbrev pub Joins : Item → Form → Type 0
Joins i nothing = Unit {0}
Joins i (j ⨾ f) = MayFollow i j
Joins i (perhaps f) = Joins i f
Joins i (names r) = Unit {0}
Joins i (numbers l g) = Unit {0}
Joins i types = IsWord i
Joins i anything = IsWord i

-- No line of the form is empty.
abbrev pub HasWords : Form → Type 0
HasWords (i ⨾ f) = Unit {0}
HasWords types = Unit {0}
HasWords _ = ⊥

-- What may be left out has words, and each item shows where the one before it ends.
abbrev pub IsGood : Form → Type 0
IsGood (i ⨾ f) = Joins i f × IsGood f
IsGood (perhaps f) = HasWords f × IsGood f
IsGood _ = Unit {0}
