use Rattle.std.proofs.Common.{◌≡◌, length, ap, string_bytes, arith}
use Rattle.cls_assemble.specs.Lengths.{pieces_length}
use Rattle.cls_assemble.proofs.HoleCounts.{products-counted, pieces_length-segments}
use Rattle.cls_assemble.proofs.template.Template.length.Goals as goal

pub returns-clause-length : goal.returns-clause-length
returns-clause-length c =
    let lengths = c.args.lengths.now in
    let segments = c.self.inside.segments.items in
    let size : length lengths ≡ 16 = omega (arith, c.told-lengths, c.fits-lengths) in
    let whole = pieces_length-segments lengths segments (string_bytes c.self.inside.tail) size in
    let counted = products-counted c.self.inside.counts segments lengths (length lengths) (omega (arith, size)) c.self.invariant in
    let text = ap length c.as_str-bytes.ensures.value in
    omega (arith, whole, counted, text, c.self.invariant.bytes, ap (pieces_length lengths) c.self.view_is, c.length.ensures, c.add_capped.ensures)
