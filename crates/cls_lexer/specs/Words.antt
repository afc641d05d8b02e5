-- What the tokens of a line say.
use Rattle.std.specs.Prelude.{ℕ, List, map, codes, if◌then◌else◌}
use Rattle.std.specs.Str.{bytes_eq}
use Rattle.cls_lexer.specs.declared.token.TokenKind.{TokenKind}
use Rattle.cls_lexer.specs.declared.token.TokenKind.TheVariants.{Name, Number, To, And, Times, Open, Close, Comma, Dollar, Colon, Equals, Bar, AtMost, Bad}
use Rattle.cls_lexer.specs.declared.token.Token.{Token}
use Rattle.cls_lexer.specs.Tokens.{Located, tokens_of}

-- The reserved name `omega`, another name's text, a number's digits, otherwise the kind alone.
pub data Word : Type 0 where
  omega : Word
  name : List ℕ → Word
  number : List ℕ → Word
  sign : TokenKind → Word

-- The name that stands for no constructor, variable or component.
abbrev pub reserved_name : List ℕ
reserved_name = codes "omega"

-- What a name of this text says.
abbrev pub name_word : List ℕ → Word
name_word text = if bytes_eq text reserved_name then omega else name text

-- What a token of this kind and text says.
abbrev pub word_from : TokenKind → List ℕ → Word
word_from Name text = name_word text
word_from Number text = number text
word_from To text = sign To
word_from And text = sign And
word_from Times text = sign Times
word_from Open text = sign Open
word_from Close text = sign Close
word_from Comma text = sign Comma
word_from Dollar text = sign Dollar
word_from Colon text = sign Colon
word_from Equals text = sign Equals
word_from Bar text = sign Bar
word_from AtMost text = sign AtMost
word_from Bad text = sign Bad

-- What the token says.
abbrev pub said : Located → Word
said token = word_from token.kind token.text

-- What the line says.
unfoldable pub words_of : List ℕ → List Word
words_of line = map said (tokens_of line)

-- What the code's token says.
abbrev pub word_of : Token → Word
word_of token = word_from token.kind token.text.now

-- What the code's tokens say.
abbrev pub words : List Token → List Word
words tokens = map word_of tokens
