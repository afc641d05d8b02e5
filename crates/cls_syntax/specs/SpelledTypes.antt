-- What the code's spelled types say.
use Rattle.std.specs.Prelude.{List}
use Rattle.cls_syntax.specs.declared.spelled_type.SpelledType.{SpelledType}
use Rattle.cls_syntax.specs.declared.spelled_types.SpelledTypes.{SpelledTypes}
use Rattle.cls_lexer.specs.declared.token.TokenKind.TheVariants.{Bar}
use Rattle.cls_lexer.specs.Words.{Word, words}
use Rattle.cls_syntax.specs.TypeTexts.{TypeText, TypeList, type_words}
use Rattle.cls_syntax.specs.Spans.{type_in, types_in}

-- the type that the tokens spell
abbrev pub type_text : SpelledType → TypeText
type_text spelled = type_in (words spelled.tokens.now)

-- the types that the tokens spell
abbrev pub types_text : SpelledTypes → TypeList
types_text spelled = types_in Bar (words spelled.tokens.now)

-- the words of the type
abbrev pub words_in : SpelledType → List Word
words_in spelled = type_words (type_text spelled)
