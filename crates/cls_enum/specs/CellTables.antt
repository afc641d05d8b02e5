-- internal: tables of cells
use Rattle.std.specs.Prelude.{ℕ, ◌+◌, ◌*◌, nat_lt, List, [], map, if◌then◌else◌, slice_index_or}
use Rattle.cls_base.specs.Terms.{Applicative}
use Rattle.cls_term.specs.Banks.{at}

-- A table is how many nodes there are, and the list of numbers of each node for size 0, for size 1 and so on. What isn't there yet is empty.
abbrev pub cell_at : ℕ × List (List ℕ) → ℕ → ℕ → List ℕ
cell_at cells size node = if nat_lt node cells.0 then slice_index_or cells.1 (size * cells.0 + node) [] else []

-- the terms that have these numbers
abbrev pub cell_of : List Applicative → ℕ × List (List ℕ) → ℕ → ℕ → List Applicative
cell_of terms cells t n = map (at terms) (cell_at cells t n)
