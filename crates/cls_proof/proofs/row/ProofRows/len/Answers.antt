use Rattle.std.proofs.Common.{length, ap, arith}
use Rattle.cls_proof.proofs.Columns.{rows-length}
use Rattle.cls_proof.proofs.row.ProofRows.len.Goals as goal

pub returns : goal.returns
returns c =
    let i = c.self.inside in
    omega (arith, c.len.ensures, rows-length i.goals.items i.places.items i.covers c.self.invariant, ap length c.self.view_is)
