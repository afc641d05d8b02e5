use Rattle.std.proofs.Common.{◌≡◌, ◌<◌, List, length, slice_get, Some, ap, subst, arith}
use Rattle.cls_proof.specs.Certificates.{ProofRow}
use Rattle.cls_proof.specs.Rows.{row_seen}
use Rattle.cls_proof.proofs.Columns.{rows-length, rows-at}
use Rattle.cls_proof.proofs.row.ProofRows.get.Goals as goal

pub index-place-requires : goal.index-place-requires
index-place-requires c =
    let i = c.self.inside in
    omega (arith, c.requires, ap length c.self.view_is, rows-length i.goals.items i.places.items i.covers c.self.invariant, c.self.invariant.same_places)

pub index-requires : goal.index-requires
index-requires c =
    let i = c.self.inside in
    omega (arith, c.requires, ap length c.self.view_is, rows-length i.goals.items i.places.items i.covers c.self.invariant)

pub get-requires : goal.get-requires
get-requires c =
    let i = c.self.inside in
    omega (arith, c.requires, ap length c.self.view_is, rows-length i.goals.items i.places.items i.covers c.self.invariant, c.self.invariant.same_covers)

pub returns : goal.returns
returns c =
    let i = c.self.inside in
    let within : c.args.i < length i.goals.items = omega (arith, c.requires, ap length c.self.view_is, rows-length i.goals.items i.places.items i.covers c.self.invariant) in
    let r : ProofRow = row_seen record { goal = c.index.result; component = c.index-place.result.now.component; n = c.index-place.result.now.n; cover = c.get.result } in
    subst (λ (rows : List ProofRow). slice_get rows c.args.i ≡ Some r) c.self.view_is
    (rows-at i.goals.items i.places.items i.covers c.args.i c.index.result.now c.index-place.result.now c.get.result.now c.self.invariant within c.index.ensures c.index-place.ensures c.get.ensures)
