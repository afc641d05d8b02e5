use Rattle.std.proofs.Common.{◌∙◌, ◌-◌, take, drop, map, sym}
use Rattle.cls_walk.specs.FrameBegins.{aim_of}
use Rattle.cls_walk.proofs.FrameLevels.{aims-part, cut-part}
use Rattle.cls_walk.proofs.aims.part.Goals as goal

pub returns : goal.returns
returns c =
    let xs = map aim_of c.args.aims.now in
    let e = c.span_at-span.ensures.end in
    let f = c.span_at-span.ensures.first in
    aims-part c.span_at-span.result.first c.span_at-span.result.end c.args.aims.now
    ∙ (λ i. take (e i - f i) (drop (f i) xs))
    ∙ sym (cut-part xs c.args.ends.now c.args.place c.requires.within)
