use Rattle.cls_base.specs.Columns.{rule_of}
use Rattle.cls_walk.proofs.Building.{forms-next}
use Rattle.cls_walk.proofs.build.node_forms.Goals as goal

pub loop-place-preserved : goal.loop-place-preserved
loop-place-preserved c = forms-next c.args.repeat c.args.size c.args.rules.now c.loop-place.place (rule_of c.get-rule.result) c.loop-place.forms.items c.add_rule.new.forms.items c.get-rule.ensures c.loop-place.invariant c.in_ok-add_rule.ensures
