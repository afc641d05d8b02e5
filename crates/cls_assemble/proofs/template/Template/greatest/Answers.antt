use Rattle.std.proofs.Common.{ap, string_bytes, arith}
use Rattle.cls_assemble.specs.Texts.{greatest_hole}
use Rattle.cls_assemble.proofs.Lengths.{greatest_hole-tail}
use Rattle.cls_assemble.proofs.template.Template.greatest.Goals as goal

pub returns : goal.returns
returns c =
    omega (arith, c.self.invariant.greatest, greatest_hole-tail c.self.inside.segments.items (string_bytes c.self.inside.tail), ap greatest_hole c.self.view_is)
