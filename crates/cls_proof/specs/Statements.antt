-- A certificate as what its lines say, a statement for each line.
use Rattle.std.specs.Prelude.{ℕ, Bool, true, false, List, [], ◌∷◌, ◌++◌, map}
use Rattle.std.specs.List.{flat_map}
use Rattle.cls_base.specs.Types.{ClosedType}
use Rattle.cls_proof.specs.Certificates as certificate
use Rattle.cls_proof.specs.Certificates.{ProofRow, Block, Member, Certificate}

-- What a line of a certificate says.
pub data Statement : Type 0 where
  inhabited : Statement
  row : ProofRow → Statement
  empty : Statement
  member : (goal : ClosedType) → Statement
  block : (component n : ℕ) → Statement
  layer : Statement
  set : (positions : List ℕ) → Statement
  qed : Statement

abbrev pub layer_statements : List (List ℕ) → List Statement
layer_statements sets = layer ∷ map (λ s. set s) sets

abbrev pub block_statements : Block → List Statement
block_statements b = block b.component b.n ∷ flat_map layer_statements b.layers

abbrev pub member_statements : Member → List Statement
member_statements m = member m.goal ∷ flat_map block_statements m.blocks

-- The grammar of certificates.
abbrev pub statements_of : Certificate → List Statement
statements_of (certificate.inhabited rows) = inhabited ∷ (map (λ r. row r) rows ++ qed ∷ [])
statements_of (certificate.empty members) = empty ∷ (flat_map member_statements members ++ qed ∷ [])

abbrev pub is_qed : Statement → Bool
is_qed qed = true
is_qed _ = false
