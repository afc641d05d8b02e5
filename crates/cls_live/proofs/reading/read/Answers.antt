use Rattle.cls_base.specs.Columns.{rule_of}
use Rattle.cls_live.proofs.Readings.{read_more}
use Rattle.cls_live.proofs.reading.read.Goals as goal

pub loop-place-preserved : goal.loop-place-preserved
loop-place-preserved c =
    read_more c.args.live.now c.args.goals.now c.args.rules.now c.loop-place.place (rule_of c.get.result) c.loop-place.found c.read_one.new.rules
    c.get.ensures c.loop-place.invariant c.in_ok-read_one.ensures
