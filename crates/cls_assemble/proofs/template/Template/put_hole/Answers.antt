use Rattle.std.proofs.Common.{length, ap, arith}
use Rattle.cls_assemble.proofs.HoleCounts.{AreCounted-more}
use Rattle.cls_assemble.proofs.template.Template.put_hole.Goals as goal

pub invariant_of-self-2 : goal.invariant_of-self-2
invariant_of-self-2 c =
    AreCounted-more c.self.inside.counts c.add.new.self c.self.inside.segments.items c.push.new.self.items _ c.in_ok-push.ensures.items c.self.invariant (omega (arith, c.add.ensures.bytes, ap length c.as_str-bytes.ensures.value)) c.add.ensures.holes c.add.ensures.greatest
