use Rattle.std.proofs.Common.{◌≡◌, ◌+◌, ◌<◌, [], ◌∷◌, ◌∙◌, ap, sym, decimal, arith, ℕ, List}
use Rattle.std.proofs.lemmas.Fmt.{decimal_digit}
use Rattle.cls_proof.proofs.print.spaced_digit.Goals as goal

spaced : (digit n : ℕ) → digit ≡ n → digit < 10 → 32 ∷ (48 + n) ∷ [] ≡ 32 ∷ decimal digit
spaced digit n is less = ap (λ (k : ℕ). 32 ∷ (48 + k) ∷ []) (sym is) ∙ ap (λ (digits : List ℕ). 32 ∷ digits) (sym (decimal_digit digit less))

pub returns-in-0 : goal.returns-in-0
returns-in-0 c = spaced c.args.digit 0 c.in-0.is c.requires

pub returns-in-1 : goal.returns-in-1
returns-in-1 c = spaced c.args.digit 1 c.in-1.is c.requires

pub returns-in-2 : goal.returns-in-2
returns-in-2 c = spaced c.args.digit 2 c.in-2.is c.requires

pub returns-in-3 : goal.returns-in-3
returns-in-3 c = spaced c.args.digit 3 c.in-3.is c.requires

pub returns-in-4 : goal.returns-in-4
returns-in-4 c = spaced c.args.digit 4 c.in-4.is c.requires

pub returns-in-5 : goal.returns-in-5
returns-in-5 c = spaced c.args.digit 5 c.in-5.is c.requires

pub returns-in-6 : goal.returns-in-6
returns-in-6 c = spaced c.args.digit 6 c.in-6.is c.requires

pub returns-in-7 : goal.returns-in-7
returns-in-7 c = spaced c.args.digit 7 c.in-7.is c.requires

pub returns-in-8 : goal.returns-in-8
returns-in-8 c = spaced c.args.digit 8 c.in-8.is c.requires

pub returns-in_default : goal.returns-in_default
returns-in_default c = spaced c.args.digit 9 (omega (arith, c.requires)) c.requires
