use Rattle.cls_base.specs.Columns.{rule_of}
use Rattle.cls_walk.proofs.Building.{repeat-next}
use Rattle.cls_walk.proofs.build.repeat_of.Goals as goal

pub loop-place-preserved : goal.loop-place-preserved
loop-place-preserved c = repeat-next c.args.node c.loop-place.repeat c.in_ok-repeat.repeat c.args.rules.now c.loop-place.place (rule_of c.get-rule.result) c.get-rule.ensures c.loop-place.invariant c.in_ok-repeat.ensures
