-- Decimal numbers as they are written in a line.
use Rattle.std.specs.Prelude.{ℕ, Bool, false, ◌&&◌, List, [], ◌∷◌}
use Rattle.std.specs.List.{list_all}
use Rattle.std.specs.Str.Parse.{digits_value}
use Rattle.cls_lexer.specs.Characters.{is_digit}

-- At least one digit, and digits alone.
abbrev pub is_numeral : List ℕ → Bool
is_numeral [] = false
is_numeral (d ∷ ds) = is_digit d && list_all is_digit ds

-- The number that decimal digits spell, the highest first.
abbrev pub number_value : List ℕ → ℕ
number_value digits = digits_value 10 digits
