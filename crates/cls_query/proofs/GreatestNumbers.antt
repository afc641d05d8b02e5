-- The greatest number of a component of a term, read from the term's code.
use Rattle.std.proofs.Common.{◌≡◌, ℕ, ◌<◌, ◌≤◌, ◌-◌, List, [], ◌∷◌, ◌++◌, length, take, drop, max, refl, sym, ap, ◌∙◌, arith, append_assoc, append-nil}
use Rattle.std.specs.Prelude.{slice_index_or}
use Rattle.std.proofs.Math.Seq.{take-length}
use Rattle.cls_base.specs.Terms.{Applicative, component, apply, head_of, argument_codes, code_of}
use Rattle.cls_term.specs.Components.{greatest_of}

-- the greatest of the numbers of which each stands before a count
abbrev pub greatest_at : List ℕ → ℕ
greatest_at [] = 0
greatest_at (x ∷ []) = 0
greatest_at (x ∷ count ∷ rest) = max x (greatest_at rest)

arguments : (e : Applicative) (rest : List ℕ) → max (head_of e) (greatest_at (argument_codes e ++ rest)) ≡ max (greatest_of e) (greatest_at rest)
arguments (component x) rest = omega arith
arguments (apply f a) rest =
    let split = ap greatest_at (append_assoc (argument_codes f) (code_of a) rest) in
    omega (arith, split, arguments f (code_of a ++ rest), arguments a rest)

pub greatest_code : (e : Applicative) → greatest_at (code_of e) ≡ greatest_of e
greatest_code e =
    let whole = ap (λ (w : List ℕ). max (head_of e) (greatest_at w)) (append-nil (argument_codes e)) in
    omega (arith, whole, arguments e [])

-- a step over the code
pub greatest_step : (w : List ℕ) → 2 ≤ length w → greatest_at w ≡ max (slice_index_or w 0 0) (greatest_at (take (length w - 2) (drop 2 w)))
greatest_step [] l = absurd (omega arith)
greatest_step (x ∷ []) l = absurd (omega arith)
greatest_step (x ∷ count ∷ rest) l =
    let all : rest ≡ take (length (x ∷ count ∷ rest) - 2) rest =
    sym (ap (λ (n : ℕ). take n rest) (let n : length (x ∷ count ∷ rest) - 2 ≡ length rest = omega arith in n) ∙ take-length rest) in
    ap (λ (w : List ℕ). max x (greatest_at w)) all

-- where no component is left
pub greatest_end : (w : List ℕ) → length w < 2 → greatest_at w ≡ 0
greatest_end [] l = refl
greatest_end (x ∷ []) l = refl
greatest_end (x ∷ count ∷ rest) l = absurd (omega arith)

pub ruleset steps = (greatest_code, greatest_step, greatest_end)
