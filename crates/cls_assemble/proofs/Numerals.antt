-- The number of a hole, read digit by digit.
use Rattle.std.proofs.Common.{◌≡◌, ℕ, ◌+◌, ◌-◌, ◌*◌, ◌<◌, ◌≤◌, true, List, [], ◌∷◌, ◌++◌, length, take, get_or, refl, sym, ap, ◌∙◌, arith}
use Rattle.std.specs.List.{prefix_len, list_all}
use Rattle.cls_lexer.proofs.Runs.{list_all-prefix, prefix_len-list_all-nil}
use Rattle.std.specs.Char.{digit_value}
use Rattle.std.specs.Str.Parse.{digits_value_after}
use Rattle.std.proofs.lemmas.List.Sums.{prefix_len_passes}
use Rattle.std.proofs.lemmas.List.{take_more}
use Rattle.std.proofs.Math.Seq.{take-length}
use Rattle.cls_lexer.specs.Characters.{is_digit}
use Rattle.cls_lexer.specs.Numerals.{number_value}

value_after-push : (n : ℕ) (ds : List ℕ) (d : ℕ) → digits_value_after 10 n (ds ++ d ∷ []) ≡ digits_value_after 10 n ds * 10 + digit_value d
value_after-push n [] d = refl
value_after-push n (c ∷ ds) d = value_after-push (n * 10 + digit_value c) ds d

digit_range : (d : ℕ) → is_digit d ≡ true → (48 ≤ d) × (d ≤ 57)
digit_range d h = grind arith

digit_value-digit : (d : ℕ) → 48 ≤ d → d ≤ 57 → digit_value d ≡ d - 48
digit_value-digit d l h = grind arith

pub digit_at : (ds : List ℕ) (i d : ℕ) → d ≡ get_or ds i 0 → i < length ds → prefix_len is_digit ds ≡ length ds → (48 ≤ d) × (d ≤ 57)
digit_at ds i d e l h = digit_range d (ap is_digit e ∙ prefix_len_passes is_digit ds i 0 (omega arith))

pub number_value-more : (ds : List ℕ) (i d : ℕ) → d ≡ get_or ds i 0 → i < length ds → prefix_len is_digit ds ≡ length ds → number_value (take (i + 1) ds) ≡ number_value (take i ds) * 10 + (d - 48)
number_value-more ds i d e l h =
    let range = digit_at ds i d e l h in
    ap number_value (take_more ds i 0 l) ∙ (value_after-push 0 (take i ds) (get_or ds i 0) ∙ ap (λ (x : ℕ). number_value (take i ds) * 10 + x) (ap digit_value (sym e) ∙ digit_value-digit d range.0 range.1))

pub number_value-all : (ds : List ℕ) → number_value (take (length ds) ds) ≡ number_value ds
number_value-all ds = ap number_value (take-length ds)

pub ruleset numerals = (digit_at, number_value-more, number_value-all)

-- the digits in front are a run of digits
pub prefix_len-front : (bytes : List ℕ) (n : ℕ) → n ≡ prefix_len is_digit bytes → prefix_len is_digit (take n bytes) ≡ length (take n bytes)
prefix_len-front bytes n e =
    prefix_len-list_all-nil is_digit (take n bytes) (ap (λ (k : ℕ). list_all is_digit (take k bytes)) e ∙ list_all-prefix is_digit bytes)
