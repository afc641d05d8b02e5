-- How often a row is claimed and filed in a history.
use Rattle.std.specs.Prelude.{◌≡◌, ◌<◌, ◌≤◌, ◌+◌, ◌==◌, ℕ, List, [], ◌∷◌, if◌then◌else◌}
use Rattle.cls_core.specs.declared.entry.Entry.{Entry}
use Rattle.cls_core.specs.declared.entry.Entry.TheVariants.{Claim, File}

-- the number of claims of the row
abbrev pub claims_of : ℕ → List Entry → ℕ
claims_of row [] = 0
claims_of row (Claim worker i ∷ es) = (if i == row then 1 else 0) + claims_of row es
claims_of row (File worker i ∷ es) = claims_of row es

-- the number of filings of the row
abbrev pub filings_of : ℕ → List Entry → ℕ
filings_of row [] = 0
filings_of row (Claim worker i ∷ es) = filings_of row es
filings_of row (File worker i ∷ es) = (if i == row then 1 else 0) + filings_of row es

-- each row is claimed at most once and filed at most once
abbrev pub EachAtMostOnce : List Entry → Type 0
EachAtMostOnce es = (row : ℕ) → (claims_of row es ≤ 1) × (filings_of row es ≤ 1)

-- each row below the count is claimed once and filed once
abbrev pub EachOnce : ℕ → List Entry → Type 0
EachOnce count es = (row : ℕ) → row < count → (claims_of row es ≡ 1) × (filings_of row es ≡ 1)
