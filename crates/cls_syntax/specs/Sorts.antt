-- What words are to the machines of types and terms.
use Rattle.std.specs.Prelude.{Bool, true, false, List, [], ◌∷◌}
use Rattle.cls_lexer.specs.declared.token.TokenKind.TheVariants as kinds
use Rattle.cls_syntax.specs.declared.sort.Sort.{Sort}
use Rattle.cls_syntax.specs.declared.sort.Sort.TheVariants.{Omega, Name, To, And, Times, Open, Close, Comma, Dollar, Other}
use Rattle.cls_lexer.specs.Words.{Word, omega, name, number, sign}

abbrev pub sort_of : Word → Sort
sort_of omega = Omega
sort_of (name x) = Name
sort_of (number n) = Other
sort_of (sign kinds.To) = To
sort_of (sign kinds.And) = And
sort_of (sign kinds.Times) = Times
sort_of (sign kinds.Open) = Open
sort_of (sign kinds.Close) = Close
sort_of (sign kinds.Comma) = Comma
sort_of (sign kinds.Dollar) = Dollar
sort_of (sign _) = Other

abbrev pub is_name : Word → Bool
is_name omega = false
is_name (name x) = true
is_name (number n) = false
is_name (sign kind) = false

abbrev pub is_number : Word → Bool
is_number omega = false
is_number (name x) = false
is_number (number n) = true
is_number (sign kind) = false

abbrev pub is_omega : Word → Bool
is_omega omega = true
is_omega (name x) = false
is_omega (number n) = false
is_omega (sign kind) = false

-- The words begin with the reserved name.
abbrev pub begins_reserved : List Word → Bool
begins_reserved [] = false
begins_reserved (w ∷ ws) = is_omega w
