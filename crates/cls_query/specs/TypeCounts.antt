-- internal: the bars of a line, which has one type more
use Rattle.std.specs.Prelude.{ℕ, ◌+◌, List, [], ◌∷◌}
use Rattle.cls_lexer.specs.declared.token.Token.{Token}
use Rattle.cls_lexer.specs.declared.token.TokenKind.{TokenKind}
use Rattle.cls_lexer.specs.declared.token.TokenKind.TheVariants.{Bar}

-- one more behind a bar
abbrev pub counted : ℕ → TokenKind → ℕ
counted n Bar = n + 1
counted n _ = n

-- so many bars, and those of the tokens
abbrev pub bars_from : ℕ → List Token → ℕ
bars_from n [] = n
bars_from n (t ∷ ts) = bars_from (counted n t.kind) ts
