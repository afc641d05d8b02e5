-- Tests of a length against 0.
use Rattle.std.proofs.Common.{◌≡◌, ℕ, zero, suc, ◌<◌, List, [], ◌∷◌, length, refl, true, false, arith}
use Rattle.std.specs.Prelude.{◌==◌}
use Rattle.std.proofs.lemmas.Bool.Decides.{nat_tests}

-- a length that isn't 0
pub some_over : (n : ℕ) → false ≡ (n == 0) → 0 < n
some_over zero e = false_differs e
  where
    false_differs : false ≡ true → 0 < 0
    false_differs e = cc
some_over (suc n) e = omega arith

pub is_none : (n : ℕ) → true ≡ (n == 0) → n ≡ 0
is_none n e = grind (arith, nat_tests)

-- a text of length 0 is empty
pub none_over : (over : List ℕ) → true ≡ (length over == 0) → over ≡ []
none_over [] e = refl
none_over (x ∷ over) e = absurd (let n = is_none (length (x ∷ over)) e in omega arith)
