-- internal: rows that are kept in columns
use Rattle.std.specs.Prelude.{ℕ, ◌≡◌, List, [], ◌∷◌, length}
use Rattle.cls_base.specs.declared.ty.Ty.{Ty}
use Rattle.cls_base.specs.Ty.{type_of}
use Rattle.cls_proof.specs.declared.row.RowPlace.{RowPlace}
use Rattle.cls_proof.specs.Certificates.{ProofRow}

-- the columns of the goals, of their components with numbers of arguments, and of their positions
abbrev pub rows_of : List Ty → List RowPlace → List (List ℕ) → List ProofRow
rows_of (goal ∷ goals) (place ∷ places) (cover ∷ covers) =
    record { goal = type_of goal; component = place.component; n = place.n; cover = cover } ∷ rows_of goals places covers
rows_of _ _ _ = []

pub record HaveOneLength (goals : List Ty) (places : List RowPlace) (covers : List (List ℕ)) : Type 0 where
  pub same_places : length places ≡ length goals
  pub same_covers : length covers ≡ length goals
