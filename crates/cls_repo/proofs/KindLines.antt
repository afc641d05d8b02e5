-- The types of a `kind` line have no variable where the line has no `$`.
use Rattle.std.proofs.Common.{◌≡◌, ℕ, List, ◌∷◌, sym, ap, ◌∙◌, subst}
use Rattle.std.specs.Prelude.{codes, Some, None, position}
use Rattle.cls_lexer.specs.declared.token.TokenKind.TheVariants.{Bar, Equals}
use Rattle.cls_lexer.specs.Words.{Word, name, sign, words_of}
use Rattle.cls_syntax.specs.ClosedTypes.{HasNoDollar}
use Rattle.cls_syntax.specs.Forms.{types}
use Rattle.cls_syntax.specs.TypeLists.{types_words}
use Rattle.cls_syntax.specs.TypeSchemas.{is_dollar}
use Rattle.cls_syntax.specs.TypeTexts.{TypeList}
use Rattle.cls_syntax.proofs.Dollars.{no_dollar}
use Rattle.cls_syntax.proofs.LineParts.{line_same}
use Rattle.cls_repo.specs.Directives.{kind, WordsSay}

pub types_closed : (line x : List ℕ) (ts : TypeList) → WordsSay (kind x (Some ts)) (words_of line) → position is_dollar (words_of line) ≡ None → HasNoDollar (types_words Bar ts)
types_closed line x ts says none =
    let all : words_of line ≡ name (codes "kind") ∷ name x ∷ sign Equals ∷ types_words Bar ts =
    sym says.spelled ∙ ap (λ (ws : List Word). name (codes "kind") ∷ name x ∷ sign Equals ∷ ws) (sym (line_same types ts)) in
    subst HasNoDollar all (no_dollar (words_of line) none)
