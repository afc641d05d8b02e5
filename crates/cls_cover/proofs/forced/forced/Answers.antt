use Rattle.std.proofs.Common.{take, sym, ◌∙◌}
use Rattle.std.proofs.lemmas.List.{take_more}
use Rattle.cls_cover.proofs.SingleFamilies.{forced_more}
use Rattle.cls_cover.proofs.forced.forced.Goals as goal

pub loop-family-preserved : goal.loop-family-preserved
loop-family-preserved c =
    let fs = c.args.families.now in
    let i = c.loop-family.family-index in
    let f = c.family-item.result in
    rw (take_more fs i f c.loop-family-test.true, ← c.family-item.is)
    (forced_more (take i fs) c.loop-family.positions.items c.put.new.positions.items c.in-Some.x f c.loop-family.invariant
    (sym c.as_slice.ensures ∙ c.in-Some.ensures) c.in_ok-put-in-Some.ensures.ascending c.in_ok-put-in-Some.ensures.members)
