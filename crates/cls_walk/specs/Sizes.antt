-- internal: what forms come to, as it is kept beside them
use Rattle.std.specs.Prelude.{ℕ, ◌≡◌, List, map}
use Rattle.cls_walk.specs.Counts.{HeadRule}
use Rattle.cls_walk.specs.Filled.{form_size}
use Rattle.cls_walk.specs.Tables.{capped}

-- for each form what it comes to, capped
abbrev pub sizes_of : (ℕ → ℕ) → List ℕ → List HeadRule → List ℕ
sizes_of cost least hs = map (λ h. capped (form_size cost least h)) hs

-- the table has a column for each node, with what its forms come to
abbrev pub HasSizes : (ℕ → ℕ) → List ℕ → List (List HeadRule) → List (List ℕ) → Type 0
HasSizes cost least forms table = table ≡ map (λ hs. sizes_of cost least hs) forms
