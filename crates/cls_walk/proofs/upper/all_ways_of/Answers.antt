use Rattle.cls_base.specs.Columns.{rule_of}
use Rattle.cls_walk.specs.Stages.{counts, costs}
use Rattle.cls_walk.proofs.Columns.{all_ways-step}
use Rattle.cls_walk.proofs.upper.all_ways_of.Goals as goal

pub loop-place-preserved : goal.loop-place-preserved
loop-place-preserved c =
    let stage = c.args.stage.now in
    all_ways-step (counts stage) (costs stage) stage.size c.args.rules.now c.loop-place.place (rule_of c.get-rule.result) c.loop-place.total c.in_ok-rule_ways_of.field-0 c.plus-total.result
    c.get-rule.ensures c.loop-place.invariant c.in_ok-rule_ways_of.ensures c.plus-total.ensures
