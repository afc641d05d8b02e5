-- The claims of a history.
use Rattle.std.proofs.Common.{◌≡◌, ℕ, suc, ◌+◌, ◌≤◌, List, [], ◌∷◌, ◌++◌, length, refl, ap, arith}
use Rattle.cls_core.specs.declared.entry.Entry.{Entry}
use Rattle.cls_core.specs.declared.entry.Entry.TheVariants.{Claim, File}
use Rattle.cls_table.specs.Lawful.{claims_in}

pub claims_in_claim : (es : List Entry) (worker row : ℕ) → claims_in (es ++ Claim worker row ∷ []) ≡ claims_in es + 1
claims_in_claim [] worker row = refl
claims_in_claim (Claim w r ∷ es) worker row = let h = claims_in_claim es worker row in omega arith
claims_in_claim (File w r ∷ es) worker row = claims_in_claim es worker row

pub claims_in_file : (es : List Entry) (worker row : ℕ) → claims_in (es ++ File worker row ∷ []) ≡ claims_in es
claims_in_file [] worker row = refl
claims_in_file (Claim w r ∷ es) worker row = ap suc (claims_in_file es worker row)
claims_in_file (File w r ∷ es) worker row = claims_in_file es worker row

pub claims_in_bound : (es : List Entry) → claims_in es ≤ length es
claims_in_bound [] = omega arith
claims_in_bound (Claim w r ∷ es) = let h = claims_in_bound es in omega arith
claims_in_bound (File w r ∷ es) = let h = claims_in_bound es in omega arith
