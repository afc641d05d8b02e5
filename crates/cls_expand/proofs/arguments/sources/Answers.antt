use Rattle.std.proofs.Common.{◌≡◌, ◌<◌, ◌≤◌, length, ◌∙◌, arith}
use Rattle.cls_base.proofs.Lists.{take_whole}
use Rattle.cls_expand.proofs.Sources.{source_step}
use Rattle.cls_expand.proofs.arguments.sources.Goals as goal

pub loop-place-preserved : goal.loop-place-preserved
loop-place-preserved c =
    let t : c.loop-place.place < c.args.count = c.loop-place-test.true in
    let n : length c.args.arrow.now.sources ≡ c.args.count = c.requires in
    source_step c.args.arrow.now.sources c.loop-place.place c.loop-place.args.items c.push.new.self.items c.in_ok-source_at.field-0 (omega arith) c.in_ok-source_at.ensures c.in_ok-push.ensures.items c.loop-place.invariant

pub returns : goal.returns
returns c =
    let t : c.args.count ≤ c.loop-place.place = c.loop-place-test.false in
    let n : length c.args.arrow.now.sources ≡ c.args.count = c.requires in
    c.loop-place.invariant ∙ take_whole c.args.arrow.now.sources c.loop-place.place (omega arith)
