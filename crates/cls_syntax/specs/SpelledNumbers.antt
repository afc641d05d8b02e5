-- What the code's lists of numbers say.
use Rattle.std.specs.Prelude.{ℕ, List}
use Rattle.cls_syntax.specs.declared.numeral_list.NumeralList.{NumeralList}
use Rattle.cls_syntax.specs.TokenTexts.{texts}

-- the digits of each number
abbrev pub numerals_of : NumeralList → List (List ℕ)
numerals_of numerals = texts numerals.tokens.now
