-- What a text of digits is parsed as.
use Rattle.std.proofs.Common.{◌≡◌, ℕ, ◌<◌, ◌^◌, Bool, true, List, [], ◌∷◌, length, refl, ap, sym, ◌∙◌, arith}
use Rattle.std.specs.Prelude.{Result, Ok, Err, IsTrue, ◌&&◌}
use Rattle.std.specs.List.{list_all}
use Rattle.std.specs.Option.{SomeIff}
use Rattle.std.specs.Result.{OkIff, result_ok}
use Rattle.std.specs.Str.{all_ascii_digits}
use Rattle.std.specs.Str.Parse.{ParsesUnsigned, digits_value}
use Rattle.std.proofs.lemmas.Str.Parse.{IsNumeralModel, numerals_by_value, tells_all_ascii_digits, parse_digits}
use Rattle.cls_lexer.specs.Characters.{is_digit}
use Rattle.cls_lexer.specs.Numerals.{is_numeral, number_value}

own : IsNumeralModel (λ ds. all_ascii_digits ds ≡ true) (digits_value 10)
own = numerals_by_value _ tells_all_ascii_digits

digits : (ds : List ℕ) → list_all is_digit ds ≡ all_ascii_digits ds
digits [] = refl
digits (d ∷ ds) = rw (digits ds) refl

numeral_digits : (text : List ℕ) → IsTrue (is_numeral text) → (all_ascii_digits text ≡ true) × (0 < length text)
numeral_digits [] h = cc
numeral_digits (d ∷ ds) h = (ap (λ (b : Bool). is_digit d && b) (sym (digits ds)) ∙ h, omega arith)

-- a part of the condition that holds is dropped
without_length : {E : Type 0} (r : Result ℕ E) (P Q : Type 0) (n : ℕ) → P → OkIff r (P × Q) n → OkIff r Q n
without_length (Ok x) P Q n p h = (h.0.1, h.1)
without_length (Err e) P Q n p h = λ q. h (p, q)

-- what `ok` makes of it
pub SomeIff-result_ok : {E : Type 0} (r : Result ℕ E) (P : Type 0) (n : ℕ) → OkIff r P n → SomeIff (result_ok r) P n
SomeIff-result_ok (Ok x) P n h = h
SomeIff-result_ok (Err e) P n h = h

-- a number's text is parsed as the number that its digits spell
pub numeral_parsed :
    {E : Type 0} (text : List ℕ) (r : Result ℕ E) → ParsesUnsigned 32 10 text r → IsTrue (is_numeral text)
    → OkIff r (number_value text < 2 ^ 32) (number_value text)
numeral_parsed text r h numeral =
    let parts = numeral_digits text numeral in
    without_length r (0 < length text) (number_value text < 2 ^ 32) (number_value text) parts.1 (parse_digits own 32 text r h parts.0)
