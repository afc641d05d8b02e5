use Rattle.cls_path.specs.Paths.{listed}
use Rattle.cls_expand.proofs.Sources.{gather_step}
use Rattle.cls_expand.proofs.arguments.gather.Goals as goal

pub loop-i-preserved : goal.loop-i-preserved
loop-i-preserved c =
    gather_step c.args.place c.args.arrows.now c.args.cover.now c.loop-i.i-index c.get.result (listed c.loop-i.paths.items) (listed c.put_source.new.all.items)
    c.loop-i-test.true c.get.ensures c.in_ok-put_source.ensures c.loop-i.invariant
