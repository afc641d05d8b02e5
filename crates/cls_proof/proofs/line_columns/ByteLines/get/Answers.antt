use Rattle.std.proofs.Common.{◌<◌, ℕ, List, ap, arith, length, ◌∷◌}
use Rattle.std.specs.Prelude.{slice_index}
use Rattle.cls_base.proofs.Cutting.{ends-at, length-cut, place-at}
use Rattle.cls_proof.proofs.line_columns.ByteLines.get.Goals as goal

pub slice_bounds-result-count : goal.slice_bounds-result-count
slice_bounds-result-count c =
    let ns = c.self.inside.column.items in
    let ends = c.self.inside.ends.items in
    let l : c.args.i < length ends = omega (arith, c.requires, ap length c.self.view_is, length-cut ns 0 ends) in
    let e = ends-at 0 (length ns) ends c.args.i c.self.invariant l in
    let s = ap (λ (es : List ℕ). slice_index (0 ∷ es) c.args.i) c.as_slice.ensures.value in
    omega (arith, e.0, s, c.start_of-start.ensures, place-at ends c.args.i c.index.result.now l c.index.ensures)
