-- The texts of tokens.
use Rattle.std.specs.Prelude.{ℕ, List, map}
use Rattle.cls_lexer.specs.declared.token.Token.{Token}

abbrev pub texts : List Token → List (List ℕ)
texts tokens = map (λ t. t.text.now) tokens
