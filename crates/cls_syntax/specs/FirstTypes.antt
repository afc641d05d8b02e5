-- internal: the first of the types that tokens spell, and the others
use Rattle.std.specs.Prelude.{ℕ, ◌≡◌, ◌<◌, false, List, length, Option, MatchOption, IsTrue}
use Rattle.cls_base.specs.Types.{ClosedType}
use Rattle.cls_lexer.specs.declared.token.Token.{Token}
use Rattle.cls_lexer.specs.declared.token.TokenKind.TheVariants.{Bar}
use Rattle.cls_lexer.specs.Names.{number_of, with_texts}
use Rattle.cls_lexer.specs.Words.{words}
use Rattle.cls_syntax.specs.ClosedTypes.{Spells, HasNoDollar}
use Rattle.cls_syntax.specs.Spans.{is_whole, types_in}
use Rattle.cls_syntax.specs.TypeLists.{types_front}
use Rattle.cls_syntax.specs.TypeSchemas.{constructors_in}
use Rattle.cls_syntax.specs.TypeTexts.{TypeText, last, more, type_words}

-- The rest are further types, fewer than before.
pub record IsRest (tokens : List Token) (text : TypeText) (rest : List Token) : Type 0 where
  pub list : types_in Bar (words tokens) ≡ more text (types_in Bar (words rest))
  pub whole : IsTrue (is_whole (types_front Bar (words rest)))
  pub closed : HasNoDollar (words rest)
  pub fewer : length rest < length tokens

-- The first of the types that tokens spell was read, and the tokens behind the bar are left if there are more types.
pub record FirstType
    (tokens : List Token) (names : List (List ℕ)) (type : ClosedType) (rest : Option (List Token)) (new : List (List ℕ))
    : Type 0 where
  pub text : TypeText
  pub spelled : Spells (number_of new) text type
  pub table : new ≡ with_texts names (constructors_in false (type_words text))
  pub left : MatchOption rest (types_in Bar (words tokens) ≡ last text) (IsRest tokens text)
