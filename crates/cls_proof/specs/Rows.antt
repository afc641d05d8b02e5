-- The rows that values are seen as.
use Rattle.cls_base.specs.Ty.{type_of}
use Rattle.cls_proof.specs.declared.row.ProofRow as code
use Rattle.cls_proof.specs.declared.row.RowRef.{RowRef}
use Rattle.cls_proof.specs.Certificates.{ProofRow}

abbrev pub row_of : code.ProofRow → ProofRow
row_of r = record { goal = type_of r.goal; component = r.component; n = r.n; cover = r.cover }

abbrev pub row_seen : RowRef → ProofRow
row_seen r = record { goal = type_of r.goal.now; component = r.component; n = r.n; cover = r.cover.now }
