-- internal: both types of a comparison, built over their words
use Rattle.std.specs.Prelude.{ℕ, ◌≡◌, ◌*◌, ◌<◌, ◌≤◌, Bool, true, false, List, length, IsTrue}
use Rattle.cls_base.specs.Limits.{max_type_nodes, max_type_depth}
use Rattle.cls_base.specs.Types.{ClosedType}
use Rattle.cls_lexer.specs.Words.{Word, words}
use Rattle.cls_lexer.specs.declared.token.Token.{Token}
use Rattle.cls_lexer.specs.declared.token.TokenKind.{TokenKind}
use Rattle.cls_lexer.specs.declared.token.TokenKind.TheVariants.{AtMost}
use Rattle.cls_syntax.specs.ClosedTypes.{HasNoDollar}
use Rattle.cls_syntax.specs.Depths.{most_open}
use Rattle.cls_syntax.specs.Spans as spans
use Rattle.cls_syntax.specs.Spans.{is_whole}
use Rattle.cls_syntax.specs.TypeReading.{type_front}
use Rattle.cls_syntax.specs.TypeSchemas.{with_constructors}
use Rattle.cls_query.specs.Queries.{type_in}

-- The token of this kind is `<=`.
abbrev pub is_at_most : TokenKind → Bool
is_at_most AtMost = true
is_at_most _ = false

-- The tokens are too few for a type of too many nodes, and don't open too many parentheses at once.
pub record IsSmall (tokens : List Token) : Type 0 where
  pub short : 3 * length tokens < 2 * max_type_nodes
  pub flat : most_open 0 0 (words tokens) ≤ max_type_depth

-- The words spell a type without variables.
pub record IsWholeClosed (ws : List Word) : Type 0 where
  pub whole : IsTrue (is_whole (type_front ws))
  pub closed : HasNoDollar ws

-- The names of the lower type and then those of the upper one came to the table, and these are both types.
pub record AreBuilt (old : List (List ℕ)) (us vs : List Word) (new : List (List ℕ)) (lower upper : ClosedType) : Type 0 where
  pub lower_is : lower ≡ type_in new (spans.type_in us)
  pub upper_is : upper ≡ type_in new (spans.type_in vs)
  pub numbered : new ≡ with_constructors (with_constructors old us) vs
